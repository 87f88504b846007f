-- Where a packet is filed, or is to be.

use Rattle.std.specs.Prelude.{◌≡◌, ◌⊎◌, ◌+◌, ◌<◌, ◌≤◌, ℕ, nat_lt, List, length, take, drop, slice_get, slice_index_or, Some, None, All, AllPairs, true, false}
use Rattle.std.specs.declared.result.Result.TheVariants.{Err}
use Rattle.std.specs.Ordering.{nat_cmp, is_lt}
use Rattle.std.specs.Cmp.{nat_cmp_total}
use Rattle.std.specs.List.Sorted.{IsBinarySearchResult, IsPartitionedBy, IsPartitionPoint}
use Rattle.std.proofs.Common.{Less, Equal, Greater, sym, ◌∙◌, ap, inl, inr, arith}
use Rattle.std.proofs.lemmas.Bool.{cases_lt, lt-ltb, ltb-true, ltb-false}
use Rattle.std.proofs.lemmas.Bool.Decides.{nat_tests}
use Rattle.std.proofs.lemmas.Option.{slice_get-get_or}
use Rattle.std.proofs.lemmas.List.{get_or_past, get_or-take, get_or-drop, length-drop, length-take-le}
use Rattle.std.proofs.lemmas.List.Sorted.{searchable_from_sorted}
use Rattle.common_values.proofs.OrderingLemmas.{nat_apart}
use Rattle.host_traffic.specs.declared.traffic.Filed.{Filed}
use Rattle.host_traffic.specs.Filed.{IsFoundAt, IsPlaceFor}
use Rattle.host_traffic.proofs.FiledLemmas.{Rises}

less_is_not : (a b : ℕ) → nat_cmp a b ≡ Less → a ≡ b → ⊥
less_is_not a b e same = grind (arith, nat_tests)

greater_is_not : (a b : ℕ) → nat_cmp a b ≡ Greater → a ≡ b → ⊥
greater_is_not a b e same = grind (arith, nat_tests)

later_not_less : (a b : ℕ) → a < b → is_lt (nat_cmp b a) ≡ false
later_not_less a b lt = grind (arith, nat_tests)

-- a packet of this number that is filed nowhere
stray : ℕ → Filed
stray number = record { packet = number; key = 0 }

-- what a search finds is filed by the number
pub found_some : (order : List Filed) (number place : ℕ) → ((d : Filed) → nat_cmp (slice_index_or order place d).packet number ≡ Equal) → IsFoundAt number order (Some place)
unfolding stray
found_some order number place equal = by (cases_lt place (length order)) where
  by : (place < length order) ⊎ (length order ≤ place) → (filed : Filed) × (slice_get order place ≡ Some filed) × (filed.packet ≡ number)
  by (inl low) = (slice_index_or order place (stray 0), slice_get-get_or order place (stray 0) low, nat_apart (slice_index_or order place (stray 0)).packet number (equal (stray 0)))
  by (inr past) =
      let d = stray (number + 1) in
      let same : slice_index_or order place d ≡ d = get_or_past order place d past in
      let e : number + 1 ≡ number = nat_apart (number + 1) number (ap (λ (f : Filed). nat_cmp f.packet number) (sym same) ∙ equal d) in
      absurd (omega (arith, e))

-- and where it finds none there is none
pub found_none : (order : List Filed) (number i : ℕ) → AllPairs Rises order → IsBinarySearchResult (λ (f : Filed). nat_cmp f.packet number) order (Err i) → IsFoundAt number order None
found_none order number i rising result k d low same =
    let parts = result (searchable_from_sorted nat_cmp_total (λ (f : Filed). f.packet) order number (λ k d least low. later_not_less (slice_index_or order k d).packet (slice_index_or order (k + 1) d).packet (rising k (k + 1) d (omega arith) low))) in
    elim (cases_lt k i) [
      | inl before ↦ less_is_not (slice_index_or order k d).packet number (parts.0 k d (omega arith) before) same
      | inr after ↦ greater_is_not (slice_index_or order k d).packet number (parts.1 k d after low) same
    ]

-- those of lower numbers come first
pub lower_first : (order : List Filed) (number : ℕ) → AllPairs Rises order → IsPartitionedBy (λ (f : Filed). nat_lt f.packet number) order
lower_first order number rising i j d le low test = by (cases_lt i j) where
  by : (i < j) ⊎ (j ≤ i) → nat_lt (slice_index_or order i d).packet number ≡ true
  by (inl lt) = let below = ltb-true (slice_index_or order j d).packet number test in let up = rising i j d lt low in lt-ltb (slice_index_or order i d).packet number (omega (arith, up, below))
  by (inr ge) = let same : i ≡ j = omega (arith, le, ge) in ap (λ (k : ℕ). nat_lt (slice_index_or order k d).packet number) same ∙ test

-- where the first one is that is not lower, a new one is to be filed
pub place_is : (order : List Filed) (number place : ℕ) → IsPartitionPoint (λ (f : Filed). nat_lt f.packet number ≡ true) (λ (f : Filed). nat_lt f.packet number ≡ false) order place → IsPlaceFor number order place
unfolding stray
place_is order number place parts = record { within = within; before = before; after = after } where
  by_length : (length order < place) ⊎ (place ≤ length order) → place ≤ length order
  by_length (inr le) = le
  by_length (inl gt) =
      let d = stray number in
      let same : slice_index_or order (length order) d ≡ d = get_or_past order (length order) d (omega arith) in
      let test : nat_lt number number ≡ true = ap (λ (f : Filed). nat_lt f.packet number) (sym same) ∙ parts.0 (length order) d (omega arith) gt in
      absurd (let lt = ltb-true number number test in omega (arith, lt))

  within : place ≤ length order
  within = by_length (cases_lt (length order) place)

  before : All (λ (f : Filed). f.packet < number) (take place order)
  before k d low =
      let below : k < place = omega (arith, low, length-take-le place order within) in
      let is = ap (λ (f : Filed). f.packet) (get_or-take place order k d below) in
      let less = ltb-true (slice_index_or order k d).packet number (parts.0 k d (omega arith) below) in
      omega (arith, is, less)

  after : All (λ (f : Filed). number ≤ f.packet) (drop place order)
  after k d low =
      let is = ap (λ (f : Filed). f.packet) (get_or-drop place order k d) in
      let above = ltb-false (slice_index_or order (place + k) d).packet number (parts.1 (place + k) d (omega arith) (omega (arith, low, length-drop place order))) in
      omega (arith, is, above)
