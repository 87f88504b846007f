-- Each round takes an event, until the end.

use Rattle.std.proofs.Common.{◌≡◌, ◌∙◌, ap, arith, subst, sym, refl}
use Rattle.std.specs.Prelude.{Option}
use Rattle.net_script.specs.Scripts.{ScriptOf}
use Rattle.net_state.specs.declared.ending.Ending.{Ending}
use Rattle.fabric_book.specs.Rounds.{HasDriven}
use Rattle.fabric_book.proofs.RoundLemmas.{round_grows}
use Rattle.fabric_book.proofs.solo.go_round.Goals as goal
use Rattle.fabric_book.proofs.solo.go_round.Goals.{In_ok-end}

-- the script stays
same : (c : goal.In_ok-end) → c.drive_all.new.net.script ≡ c.args.net.now.script
same c = c.in_ok-end.ensures.on.script ∙ c.in_ok-work_all.ensures.on.script ∙ c.rounds.invariant.1

pub rounds-init : goal.rounds-init
rounds-init c = (c.requires.turn, refl, c.requires.told)

pub drive_all-requires-clause-told : goal.drive_all-requires-clause-told
drive_all-requires-clause-told c = c.rounds.invariant.2 ∙ sym c.in_ok-work_all.ensures.told

pub returns-in-Some-clause-script : goal.returns-in-Some-clause-script
returns-in-Some-clause-script c = same (goal.at.returns-in-Some-clause-script c).In_ok-end

pub returns-in-Some-clause-driven : goal.returns-in-Some-clause-driven
returns-in-Some-clause-driven c = subst (λ (o : Option Ending). HasDriven o c.drive_all.new.net) c.in-Some.is c.in_ok-end.ensures.driven

pub rounds-smaller : goal.rounds-smaller
rounds-smaller c =
    let done = c.in_ok-work_all.ensures in
    let driven = subst (λ (o : Option Ending). HasDriven o c.drive_all.new.net) c.in_default.is c.in_ok-end.ensures.driven in
    let grows = round_grows c.rounds.net c.work_all.new.net c.drive_all.new.net c.in_ok-end.ensures.script done.idle done.on c.in_ok-end.ensures.on driven in
    let room = driven.0.room in
    let limit : c.drive_all.new.net.script.limits.events ≡ c.rounds.net.script.limits.events = ap (λ (x : ScriptOf). x.limits.events) (c.in_ok-end.ensures.on.script ∙ done.on.script) in
    omega (arith, grows, room, limit)

pub rounds-preserved : goal.rounds-preserved
rounds-preserved c =
    let driven = subst (λ (o : Option Ending). HasDriven o c.drive_all.new.net) c.in_default.is c.in_ok-end.ensures.driven in
    (driven.0, same (goal.at.rounds-preserved c).In_ok-end, c.in_ok-end.ensures.told)
