-- All pairs with the same levels.
use Rattle.std.proofs.Common.{◌≡◌, ℕ, ◌<◌, Option, inl, inr}
use Rattle.std.specs.Int.{bit_at}
use Rattle.fabric_lane_tables.specs.InUse.{AreLevelsGiven}

-- no pair was told none
pub same_given : (silent : Option ℕ) (word level : ℕ) → level < 16 → bit_at word level ≡ 1 → AreLevelsGiven silent (λ source lid. word) (λ source lid. word)
same_given silent word level low bit = record {
  each = λ source lid other. (
    (λ has. inl has),
    (λ given. elim given [
      | inl has ↦ has
      | inr mute ↦ absurd (mute.1 level (low, bit))
    ]),
  );
}
