use Rattle.std.proofs.Common.{◌≡◌, ◌∙◌, refl, subst, ℕ, true, false, get_or, arith}
use Rattle.std.proofs.lemmas.List.{get_or-replicate, length-set}
use Rattle.frame_codec.proofs.Loops.{is_low, is_high, is_seen, is_fresh, seen_more, all_seen}
use Rattle.frame_codec.proofs.order.are_numbers.Goals as goal

pub numbers-init : goal.numbers-init
numbers-init c = (refl, refl, λ k lt. get_or-replicate 127 k false false lt)

pub returns-then-number-lt1 : goal.returns-then-number-lt1
returns-then-number-lt1 c = is_low c.args.numbers.now c.numbers.number-index c.numbers-test.true c.numbers.invariant.0 c.if-number-lt1.true

pub returns-then-number-gt126 : goal.returns-then-number-gt126
returns-then-number-gt126 c = is_high c.args.numbers.now c.numbers.number-index c.numbers-test.true c.numbers.invariant.0 c.if-number-lt1.false c.if-number-gt126.true

pub returns-then-seen-from : goal.returns-then-seen-from
returns-then-seen-from c =
    is_seen c.args.numbers.now c.numbers.number-index c.numbers.seen c.numbers-test.true c.numbers.invariant.0 c.if-number-lt1.false c.if-number-gt126.false c.numbers.invariant.2 (subst (λ (m : ℕ). get_or c.numbers.seen m false ≡ true) c.from.ensures c.if-seen-from.true)

pub numbers-preserved : goal.numbers-preserved
numbers-preserved c =
    rw c.from-in-numbers.ensures (
      is_fresh c.args.numbers.now c.numbers.number-index c.numbers.seen c.numbers-test.true c.numbers.invariant.0 c.if-number-lt1.false c.if-number-gt126.false c.numbers.invariant.2 (subst (λ (m : ℕ). get_or c.numbers.seen m false ≡ false) c.from.ensures c.if-seen-from.false),
      length-set c.numbers.seen (get_or c.args.numbers.now c.numbers.number-index 0) true ∙ c.numbers.invariant.1,
      seen_more c.args.numbers.now c.numbers.number-index c.numbers.seen c.numbers-test.true (omega (arith, c.if-number-gt126.false, c.numbers.invariant.1)) c.numbers.invariant.2,
    )

pub returns : goal.returns
returns c = all_seen c.args.numbers.now c.numbers.number-index c.numbers-test.false c.numbers.invariant.0
