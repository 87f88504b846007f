use Rattle.std.proofs.Common.{ap, List, length}
use Rattle.dep_check.specs.declared.channel.Channel.{Channel}
use Rattle.dep_check.specs.Rounds.{IsRaisedTo}
use Rattle.dep_check.proofs.RoundLemmas.{told_empty, told_some}
use Rattle.dep_check.proofs.RuleLemmas.{levels_few, levels_done, levels_more, due_more}
use Rattle.dep_check.proofs.level.all_levels.Goals as goal

pub raise-requires-clause-count : goal.raise-requires-clause-count
raise-requires-clause-count c = c.rounds.invariant.count

pub raise-requires-clause-spots : goal.raise-requires-clause-spots
raise-requires-clause-spots c = λ s has. (c.rounds.invariant.due.each s (rw c.deref.ensures.value at has)).spot

pub returns-then-is_empty : goal.returns-then-is_empty
returns-then-is_empty c =
    let raised = c.in_ok-raised.raised.items in
    levels_done c.args.rule c.args.steps.now c.rounds.round c.rounds.levels.items c.raise.new.levels.items c.rounds.due.items raised c.rounds.invariant.below c.rounds.invariant.due (rw c.deref.ensures.value at c.in_ok-raised.ensures)
    (told_empty c.is_empty.result _ (length raised) c.is_empty.ensures c.if-is_empty.true (ap (λ (xs : List Channel). length xs) c.as_slice.ensures.value))

pub due_before-requires-clause-spots : goal.due_before-requires-clause-spots
due_before-requires-clause-spots c = λ s has.
    let up : IsRaisedTo c.rounds.round c.rounds.levels.items c.rounds.due.items c.raise.new.levels.items c.in_ok-raised.raised.items = rw c.deref.ensures.value at c.in_ok-raised.ensures in
    (up.each s (rw c.deref-in-rounds-2.ensures.value at has)).0

pub rounds-preserved : goal.rounds-preserved
rounds-preserved c =
    let rule = c.args.rule in
    let steps = c.args.steps.now in
    let r = c.rounds.round in
    let old = c.rounds.levels.items in
    let new = c.raise.new.levels.items in
    let due = c.rounds.due.items in
    let raised = c.in_ok-raised.raised.items in
    let i = c.rounds.invariant in
    let up : IsRaisedTo r old due new raised = rw c.deref.ensures.value at c.in_ok-raised.ensures in
    let some = told_some c.is_empty.result _ (length raised) c.is_empty.ensures c.if-is_empty.false (ap (λ (xs : List Channel). length xs) c.as_slice.ensures.value) in
    record {
      below = levels_more rule steps r old new due raised i.below i.due up some;
      due = due_more rule steps r old new due raised i.below i.due up c.in_ok-due.due.items some (rw (c.deref-in-rounds.ensures.value, c.deref-in-rounds-2.ensures.value) at c.in_ok-due.ensures);
      count = up.count;
    }

pub unreachable-requires : goal.unreachable-requires
unreachable-requires c = levels_few c.args.rule c.args.steps.now c.rounds.round c.rounds.levels.items c.rounds.invariant.below c.rounds-test.false
