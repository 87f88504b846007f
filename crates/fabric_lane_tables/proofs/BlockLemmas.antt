-- Blocks of levels that are kept once.
use Rattle.std.proofs.Common.{◌≡◌, ◌≢◌, ◌∙◌, sym, ap, refl, subst, ℕ, ◌+◌, ◌*◌, ◌/◌, ◌%◌, ◌<◌, ◌≤◌, ◌++◌, [], ◌∷◌, Bool, true, false, cond, Option, Some, List, arith, length, length-append, get_or, set, take, drop, inl, inr}
use Rattle.std.specs.Prelude.{slice_get, position, nat_eq}
use Rattle.std.specs.Cmp.Lexicographic.{pointwise}
use Rattle.std.proofs.lemmas.Bool.{cases_eq}
use Rattle.std.proofs.lemmas.Bool.Decides.{Decides-eqb}
use Rattle.std.proofs.lemmas.List.{get_or-set_other, get_or-set_same, get_or_append_left, get_or-take, get_or-drop, length-set}
use Rattle.std.proofs.lemmas.List.Quantifiers.{position-Some}
use Rattle.std.proofs.lemmas.Option.{slice_get-get_or, slice_get_past, slice_get_within}
use Rattle.std.proofs.lemmas.Slice.Eq.{slice_eq-Decides}
use Rattle.fabric_lane_tables.specs.PathLevels.{AreBlocksOf, AreOthersSame, ArePlaces, HasBlockAt, IsBlockPlace, KeepsBlocks}
use Rattle.fabric_lane_tables.specs.PathLevels.{block_word, word_in}

-- a block that stands there already
pub block_found : (rows : List (List ℕ)) (levels : List ℕ) (place : ℕ) → position (pointwise nat_eq levels) rows ≡ Some place → HasBlockAt rows levels place
block_found rows levels place at =
    let here = position-Some (pointwise nat_eq levels) rows place [] at in
    let same = (slice_eq-Decides {E = nat_eq} Decides-eqb levels (get_or rows place []) (pointwise nat_eq levels (get_or rows place [])) refl).0 here.1 in
    slice_get-get_or rows place [] here.0 ∙ ap (λ (l : List ℕ). Some l) (sym same)

pub block_stored : (rows : List (List ℕ)) (levels found : List ℕ) (place : ℕ) → slice_get rows place ≡ Some found → pointwise nat_eq levels found ≡ true → HasBlockAt rows levels place
block_stored rows levels found place at is =
    let same = (slice_eq-Decides {E = nat_eq} Decides-eqb levels found (pointwise nat_eq levels found) refl).0 is in
    at ∙ ap (λ (l : List ℕ). Some l) (sym same)

-- a block more
kept_left : (old : List (List ℕ)) (levels : List ℕ) (place : ℕ) → place < length old → slice_get (old ++ levels ∷ []) place ≡ slice_get old place
kept_left old levels place low =
    let more : place < length (old ++ levels ∷ []) = omega (arith, length-append old (levels ∷ [])) in
    slice_get-get_or (old ++ levels ∷ []) place [] more
    ∙ ap (λ (l : List ℕ). Some l) (get_or_append_left old (levels ∷ []) [] place low)
    ∙ sym (slice_get-get_or old place [] low)

kept_by : (old : List (List ℕ)) (levels : List ℕ) (b : Bool) → length old < 4294967295 → KeepsBlocks old (cond b old (old ++ levels ∷ []))
kept_by old levels true few = record { same = λ place low. refl; more = omega arith; few = omega arith }
kept_by old levels false few = record {
  same = kept_left old levels;
  more = omega (arith, length-append old (levels ∷ []));
  few = omega (arith, length-append old (levels ∷ []));
}

pub blocks_kept : (old new : List (List ℕ)) (levels : List ℕ) (b : Bool) → new ≡ cond b old (old ++ levels ∷ []) → length old < 4294967295 → KeepsBlocks old new
blocks_kept old new levels b is few = subst (λ (rows : List (List ℕ)). KeepsBlocks old rows) (sym is) (kept_by old levels b few)

pub kept_none : (rows : List (List ℕ)) → length rows ≤ 4294967295 → KeepsBlocks rows rows
kept_none rows few = record { same = λ place low. refl; more = omega arith; few = few }

pub kept_same : (old new : List (List ℕ)) → new ≡ old → length old ≤ 4294967295 → KeepsBlocks old new
kept_same old new is few = subst (λ (rows : List (List ℕ)). KeepsBlocks old rows) (sym is) (kept_none old few)

pub kept_more : (a b c : List (List ℕ)) → KeepsBlocks a b → KeepsBlocks b c → KeepsBlocks a c
kept_more a b c one other =
    let first = one.more in
    let second = other.more in
    record { same = λ place low. other.same place (omega arith) ∙ one.same place low; more = omega arith; few = other.few }

module _ (old new : List (List ℕ)) (kept : KeepsBlocks old new) where
  pub block_kept : (levels : List ℕ) (place : ℕ) → HasBlockAt old levels place → HasBlockAt new levels place
  block_kept levels place at = kept.same place (slice_get_within old place levels at) ∙ at

  pub places_kept : (places : List ℕ) → ArePlaces old places → ArePlaces new places
  places_kept places are k low = elim (are k low) [
    | inl none ↦ inl none
    | inr less ↦ (let more = kept.more in inr (omega arith))
  ]

  -- a place says what it said
  pub word_kept : (place lid : ℕ) → length old ≤ 4294967295 → IsBlockPlace old place → block_word new place lid ≡ block_word old place lid
  word_kept place lid few (inl none) =
      let most = kept.few in
      ap (λ (o : Option (List ℕ)). word_in o lid) (slice_get_past new place (omega arith) ∙ sym (slice_get_past old place (omega arith)))
  word_kept place lid few (inr less) = ap (λ (o : Option (List ℕ)). word_in o lid) (kept.same place less)

pub places_set : (rows : List (List ℕ)) (places : List ℕ) (at place : ℕ) → ArePlaces rows places → place < length rows → ArePlaces rows (set places at place)
places_set rows places at place are less k low = elim (cases_eq k at) [
  | inl same ↦ (let within : at < length places = omega (arith, length-set places at place) in inr (subst (λ (n : ℕ). n < length rows) (sym (ap (λ (j : ℕ). get_or (set places at place) j 4294967295) same ∙ get_or-set_same places at place 4294967295 within)) less))
  | inr other ↦ elim (are k (omega (arith, length-set places at place))) [
    | inl none ↦ inl (get_or-set_other places at k place 4294967295 other ∙ none)
    | inr little ↦ inr (subst (λ (n : ℕ). n < length rows) (sym (get_or-set_other places at k place 4294967295 other)) little)
  ]
]

-- the blocks of a row, one more
pub blocks_more : (old new : List (List ℕ)) (places row : List ℕ) (first block place : ℕ) → KeepsBlocks old new → AreBlocksOf old places first block row → HasBlockAt new (take 64 (drop (64 * block) row)) place → first + block < length places → AreBlocksOf new (set places (first + block) place) first (block + 1) row
blocks_more old new places row first block place kept are at within k low = elim (cases_eq k block) [
  | inl same ↦
      subst (λ (n : ℕ). slice_get new n ≡ Some (take 64 (drop (64 * k) row))) (sym (ap (λ (j : ℕ). get_or (set places (first + block) place) (first + j) 4294967295) same ∙ get_or-set_same places (first + block) place 4294967295 within))
      (at ∙ ap (λ (j : ℕ). Some (take 64 (drop (64 * j) row))) (sym same))
  | inr other ↦
      subst (λ (n : ℕ). slice_get new n ≡ Some (take 64 (drop (64 * k) row))) (sym (get_or-set_other places (first + block) (first + k) place 4294967295 (λ same. other (omega arith))))
      (block_kept old new kept (take 64 (drop (64 * k) row)) (get_or places (first + k) 4294967295) (are k (omega arith)))
]

pub others_more : (start places : List ℕ) (first blocks block place : ℕ) → block < blocks → AreOthersSame start places first blocks → AreOthersSame start (set places (first + block) place) first blocks
others_more start places first blocks block place low same k outside =
    let apart : k ≢ first + block = elim outside [
      | inl before ↦ (λ is. omega arith)
      | inr after ↦ (λ is. omega arith)
    ] in
    get_or-set_other places (first + block) k place 4294967295 apart ∙ same k outside

-- what the block of a row says
pub word_of_row : (rows : List (List ℕ)) (row : List ℕ) (place block lid : ℕ) → HasBlockAt rows (take 64 (drop (64 * block) row)) place → block ≡ lid / 64 → block_word rows place lid ≡ get_or row lid 0
word_of_row rows row place block lid at is =
    let low : lid % 64 < 64 = omega arith in
    let same : 64 * block + lid % 64 ≡ lid = omega arith in
    ap (λ (o : Option (List ℕ)). word_in o lid) at
    ∙ get_or-take 64 (drop (64 * block) row) (lid % 64) 0 low
    ∙ get_or-drop (64 * block) row (lid % 64) 0
    ∙ ap (λ (n : ℕ). get_or row n 0) same
