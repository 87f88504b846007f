use Rattle.std.proofs.Common.{◌≡◌, ◌<◌, ◌↔◌, subst, ℕ, arith, get_or, length, inl, inr}
use Rattle.std.specs.Int.{bit_at}
use Rattle.std.proofs.lemmas.Bool.{cases_lt}
use Rattle.fabric_routes.specs.Waves.{HasBit}
use Rattle.fabric_routes.proofs.WordLemmas.{joined_is}
use Rattle.fabric_lane_waves.proofs.start.union.Goals as goal

pub levels-preserved : goal.levels-preserved
levels-preserved c = λ bit.
    let joined = joined_is c.levels.all (get_or c.args.words.now c.levels.word-index 0) bit in (
      λ is. elim (joined.0 is) [
        | inl had ↦ (let (level, less, has) = (c.levels.invariant bit).0 had in (level, omega arith, has))
        | inr here ↦ (c.levels.word-index, omega arith, here)
      ],
      λ (level, less, has). elim (cases_lt level c.levels.word-index) [
        | inl before ↦ joined.1 (inl ((c.levels.invariant bit).1 (level, before, has)))
        | inr last ↦ (let same : level ≡ c.levels.word-index = omega arith in joined.1 (inr (subst (λ (l : ℕ). HasBit c.args.words.now l bit) same has)))
      ],
    )

pub returns : goal.returns
returns c =
    let end : c.levels.word-index ≡ length c.args.words.now = omega arith in
    subst (λ (n : ℕ). (bit : ℕ) → ((bit_at c.levels.all bit ≡ 1) ↔ ((level : ℕ) × (level < n) × HasBit c.args.words.now level bit))) end c.levels.invariant
