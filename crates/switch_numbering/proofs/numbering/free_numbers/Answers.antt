use Rattle.std.proofs.Common.{◌≡◌, arith, ◌+◌, ◌∙◌, subst, ap, sym, List, ℕ, filter, not, Vec, Global}
use Rattle.std.specs.List.{range_with_len}
use Rattle.switch_numbering.specs.Numbering.{is_proposed, proposals}
use Rattle.switch_numbering.proofs.Counting.{free_then, free_else, free_all}
use Rattle.switch_numbering.proofs.numbering.free_numbers.Goals as goal
use Rattle.switch_numbering.proofs.numbering.free_numbers.Goals.{then-not-is_proposed_by+in_ok-push, else-not-is_proposed_by}

pub numbers-preserved : goal.numbers-preserved
numbers-preserved c =
    elim c.if-not-is_proposed_by.branch [
      | then-not-is_proposed_by+in_ok-push w ↦ free_then (proposals c.args.entries.now) c.numbers.below (c.numbers.below + 1) _ _ (omega arith) c.numbers.invariant (cc) (ap (λ (v : Vec ℕ Global). v.items) w.free-is ∙ w.in_ok-push.ensures.items)
      | else-not-is_proposed_by w ↦ subst (λ (xs : List ℕ). xs ≡ filter (λ m. not (is_proposed (proposals c.args.entries.now) m)) (range_with_len 1 (c.numbers.below + 1))) (ap (λ (v : Vec ℕ Global). v.items) (sym w.free-is)) (free_else (proposals c.args.entries.now) c.numbers.below (c.numbers.below + 1) _ (omega arith) c.numbers.invariant (cc))
    ]

pub returns : goal.returns
returns c = free_all (proposals c.args.entries.now) c.numbers.below _ (omega arith) c.numbers.invariant
