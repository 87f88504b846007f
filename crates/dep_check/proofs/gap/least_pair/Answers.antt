use Rattle.std.proofs.Common.{◌≡◌, ◌∙◌, refl, subst, arith, ℕ, List, Option}
use Rattle.dep_check.specs.declared.channel.Channel.{Channel}
use Rattle.dep_check.specs.Tables.{wire_at}
use Rattle.dep_check.specs.Pairs.{FirstOf, IsLeastPair}
use Rattle.dep_check.proofs.gap.least_pair.Goals as goal

pub numbers-init : goal.numbers-init
numbers-init c = record { least = λ f t low parted. absurd (omega arith); kept = record { wires_are = refl; count = c.requires.count } }

pub stuck_towards-requires-clause-count : goal.stuck_towards-requires-clause-count
stuck_towards-requires-clause-count c = c.numbers.invariant.kept.count

pub numbers-preserved : goal.numbers-preserved
numbers-preserved c =
    let wires = c.args.steps.now.wires.items in
    let numbers = c.args.numbers.now in
    let rows = c.args.rows.now in
    let kept = c.numbers.invariant.kept in
    let first : FirstOf (wire_at wires) numbers rows c.numbers.to c.in_ok-from.from = subst (λ (ws : List (Option Channel)). FirstOf (wire_at ws) numbers rows c.numbers.to c.in_ok-from.from) kept.wires_are c.in_ok-from.ensures.first in
    record {
      least = c.lesser-best.ensures (wire_at wires) numbers rows c.numbers.invariant.least first;
      kept = record { wires_are = c.in_ok-from.ensures.kept.wires_are ∙ kept.wires_are; count = c.in_ok-from.ensures.kept.count };
    }

pub returns : goal.returns
returns c = record {
  least = (let all : c.numbers.to ≡ 127 = omega arith in subst (λ (n : ℕ). IsLeastPair (wire_at c.args.steps.now.wires.items) c.args.numbers.now c.args.rows.now n c.numbers.best) all c.numbers.invariant.least);
  kept = c.numbers.invariant.kept;
}
