use Rattle.std.proofs.Common.{◌≡◌, subst, ℕ, ◌+◌, ◌-◌, ◌<◌, List, [], ◌∷◌, arith, length, take, drop, Some, None, Bool, false, cond, ltb}
use Rattle.std.specs.List.{position, position_or_len, slice_split}
use Rattle.std.proofs.lemmas.Bool.Decides.{nat_tests}
use Rattle.std.proofs.lemmas.List.{take_rest}
use Rattle.std.proofs.lemmas.List.Elements.{All-from_get_or}
use Rattle.std.proofs.lemmas.List.Splits.{slice_split_none, slice_split_first}
use Rattle.common_lines.proofs.LineLemmas.{position_none}

-- the place that a test finds is the first
pub first_place : (n len i : ℕ) → cond (ltb n len) (Some n) None ≡ Some i → (n ≡ i) × (n < len)
first_place n len i e = (grind (arith, nat_tests), grind (arith, nat_tests))

-- the parts of what has a separator
pub split_at : (p : ℕ → Bool) (xs : List ℕ) (i : ℕ) → position p xs ≡ Some i → slice_split p xs ≡ take i xs ∷ slice_split p (take (length xs - (i + 1)) (drop (i + 1) xs))
split_at p xs i at =
    let h = first_place (position_or_len p xs) (length xs) i at in
    let is = h.0 in
    rw (take_rest xs (i + 1)) (subst (λ (n : ℕ). slice_split p xs ≡ take n xs ∷ slice_split p (drop (n + 1) xs)) is (slice_split_first p xs 0 h.1))

-- and of what has none
pub split_none : (p : ℕ → Bool) (xs : List ℕ) → position p xs ≡ None → slice_split p xs ≡ xs ∷ []
split_none p xs none = slice_split_none p xs (All-from_get_or (λ c. p c ≡ false) xs 0 (position_none p xs 0 none))
