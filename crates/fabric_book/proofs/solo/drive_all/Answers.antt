-- The driver has its turn.

use Rattle.std.proofs.Common.{◌≡◌, ap, arith, subst}
use Rattle.net_script.specs.Scripts.{ScriptOf}
use Rattle.net_state.specs.declared.work.Drive.{Drive}
use Rattle.fabric_book.specs.Rounds.{told_of}
use Rattle.fabric_book.proofs.DriverLemmas.{drive_tells}
use Rattle.fabric_book.proofs.RoundLemmas.{HasDone, done_by, goes_same, goes_then}
use Rattle.fabric_book.proofs.solo.drive_all.Goals as goal
use Rattle.fabric_book.proofs.solo.drive_all.Goals.{In_ok-_event}

-- what the driver came to, and what was told of it
done : (c : goal.In_ok-_event) → HasDone c.in_ok-_event.field-0 c.turns.net c.drive.new.self
done c = let e = c.in_ok-_event.ensures in done_by c.in_ok-_event.field-0 c.turns.net c.drive.new.self c.turns.invariant.0 e.did e.driven e.room

told : (c : goal.In_ok-_event) → c.drive.new.lines ≡ told_of c.drive.new.self
told c =
    let e = c.in_ok-_event.ensures in
    drive_tells c.turns.net c.drive.new.self c.in_ok-_event.field-0 c.turns.told c.drive.new.lines e.script e.did e.driven c.turns.invariant.2 e.told

pub turns-init : goal.turns-init
turns-init c = (c.requires.turn, goes_same c.args.net.now, c.requires.told)

pub drive-requires : goal.drive-requires
drive-requires c = c.turns.invariant.0.here

pub turns-preserved : goal.turns-preserved
turns-preserved c =
    let t = (goal.at.turns-preserved c).In_ok-_event in
    let has = subst (λ (d : Drive). HasDone d c.turns.net c.drive.new.self) c.in-Did.is (done t) in
    (has.0, goes_then c.args.net.now c.turns.net c.drive.new.self c.turns.invariant.1 has.1, told t)

pub turns-smaller : goal.turns-smaller
turns-smaller c =
    let has = subst (λ (d : Drive). HasDone d c.turns.net c.drive.new.self) c.in-Did.is (done (goal.at.turns-smaller c).In_ok-_event) in
    let more = has.2 in
    let room = has.0.room in
    let limit : c.drive.new.self.script.limits.events ≡ c.turns.net.script.limits.events = ap (λ (x : ScriptOf). x.limits.events) has.1.script in
    omega (arith, more, room, limit)

pub returns-in-Waits : goal.returns-in-Waits
returns-in-Waits c =
    let t = (goal.at.returns-in-Waits c).In_ok-_event in
    let has = subst (λ (d : Drive). HasDone d c.turns.net c.drive.new.self) c.in-Waits.is (done t) in
    record { script = c.in_ok-_event.ensures.script; on = goes_then c.args.net.now c.turns.net c.drive.new.self c.turns.invariant.1 has.1; driven = has.0; told = told t }

pub returns-in-Ended : goal.returns-in-Ended
returns-in-Ended c =
    let t = (goal.at.returns-in-Ended c).In_ok-_event in
    let has = subst (λ (d : Drive). HasDone d c.turns.net c.drive.new.self) c.in-Ended.is (done t) in
    record { script = c.in_ok-_event.ensures.script; on = goes_then c.args.net.now c.turns.net c.drive.new.self c.turns.invariant.1 has.1; driven = has.0; told = told t }
