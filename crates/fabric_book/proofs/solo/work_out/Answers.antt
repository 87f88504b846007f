-- A worker has its turn.

use Rattle.std.proofs.Common.{◌<◌, ◌∙◌, Bool, length, subst, sym}
use Rattle.net_script.specs.Scripts.{ScriptOf}
use Rattle.fabric_book.proofs.DriverLemmas.{turn_tells}
use Rattle.fabric_book.proofs.RoundLemmas.{HasTurned, goes_then, turned_by}
use Rattle.fabric_book.proofs.solo.work_out.Goals as goal
use Rattle.fabric_book.proofs.solo.work_out.Goals.{In_ok-turn}

-- what the turn came to
turned : (c : goal.In_ok-turn) → HasTurned c.in_ok-turn.field-0 c.args.s c.turns.net c.turn.new.self
turned c =
    let below = subst (λ (x : ScriptOf). c.args.s < length x.wires.switches) (sym c.turns.invariant.1.script) c.requires.within in
    turned_by c.turns.net c.turn.new.self c.args.s c.in_ok-turn.field-0 below c.turns.invariant.0 c.in_ok-turn.ensures.turned c.in_ok-turn.ensures.room c.in_ok-turn.ensures.some

pub turns-preserved : goal.turns-preserved
turns-preserved c =
    let done = subst (λ (b : Bool). HasTurned b c.args.s c.turns.net c.turn.new.self) c.if-branch.true (turned (goal.at.turns-preserved c).In_ok-turn) in (
      done.0,
      goes_then c.args.net.now c.turns.net c.turn.new.self c.turns.invariant.1 done.1,
      turn_tells c.turns.net c.turn.new.self c.args.s c.in_ok-turn.ensures.turned ∙ c.turns.invariant.2,
    )

pub returns-clause-turn : goal.returns-clause-turn
returns-clause-turn c =
    let done = subst (λ (b : Bool). HasTurned b c.args.s c.turns.net c.turn.new.self) c.if-branch.false (turned (goal.at.returns-clause-turn c).In_ok-turn) in
    done.0

pub returns-clause-on : goal.returns-clause-on
returns-clause-on c =
    let done = subst (λ (b : Bool). HasTurned b c.args.s c.turns.net c.turn.new.self) c.if-branch.false (turned (goal.at.returns-clause-on c).In_ok-turn) in
    goes_then c.args.net.now c.turns.net c.turn.new.self c.turns.invariant.1 done.1

pub returns-clause-idle : goal.returns-clause-idle
returns-clause-idle c =
    let done = subst (λ (b : Bool). HasTurned b c.args.s c.turns.net c.turn.new.self) c.if-branch.false (turned (goal.at.returns-clause-idle c).In_ok-turn) in
    done.2

pub returns-clause-told : goal.returns-clause-told
returns-clause-told c = turn_tells c.turns.net c.turn.new.self c.args.s c.in_ok-turn.ensures.turned ∙ c.turns.invariant.2
