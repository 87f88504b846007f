use Rattle.std.proofs.Common.{ℕ, subst, arith, inl, inr}
use Rattle.std.proofs.lemmas.Bool.{cases_eq, cases_lt}
use Rattle.dep_check.specs.Pairs.{IsStuckFrom, StaysClear}
use Rattle.dep_check.proofs.gap.first_stuck.Goals as goal

pub numbers-init : goal.numbers-init
numbers-init c = record {
  count = c.in_ok-seen.ensures.count;
  empty = c.new-ahead.ensures.items;
  clear = λ s spot e. absurd (let none = c.in_ok-seen.ensures.none s in cc);
  none = λ f low stuck. absurd (omega arith);
}

pub is_stuck_from-requires-clause-count : goal.is_stuck_from-requires-clause-count
is_stuck_from-requires-clause-count c = c.numbers.invariant.count

pub is_stuck_from-requires-clause-clear : goal.is_stuck_from-requires-clause-clear
is_stuck_from-requires-clause-clear c = c.numbers.invariant.clear

pub returns-then-branch : goal.returns-then-branch
returns-then-branch c =
    let stuck : IsStuckFrom c.args.numbers.now c.args.steps.now c.args.to c.numbers.from = rw c.if-branch.true at c.in_ok-is_stuck_from.ensures.stuck in (
      c.numbers-test.true,
      stuck,
      λ f low other. elim (cases_lt f c.numbers.from) [
        | inl less ↦ absurd (c.numbers.invariant.none f less other)
        | inr more ↦ more
      ],
    )

pub numbers-preserved : goal.numbers-preserved
numbers-preserved c =
    let stays : StaysClear c.args.numbers.now c.args.steps.now c.args.to c.numbers.from c.is_stuck_from.new.seen.items = rw c.if-branch.false at c.in_ok-is_stuck_from.ensures.stuck in
    record {
      count = stays.count;
      empty = c.in_ok-is_stuck_from.ensures.ahead;
      clear = stays.clear;
      none = λ f low stuck. elim (cases_eq f c.numbers.from) [
        | inl last ↦ stays.none (subst (λ (n : ℕ). IsStuckFrom c.args.numbers.now c.args.steps.now c.args.to n) last stuck)
        | inr before ↦ c.numbers.invariant.none f (omega arith) stuck
      ];
    }

pub returns : goal.returns
returns c = λ f low stuck. c.numbers.invariant.none f (omega arith) stuck
