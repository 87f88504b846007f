-- The list of a set of places, where one is put in or taken out, and the least one.
use Rattle.std.proofs.Common.{◌≡◌, ◌≢◌, ◌∙◌, ◌+◌, ◌*◌, ◌/◌, ◌%◌, ◌^◌, sym, ap, subst, refl, ℕ, ◌<◌, List, arith, length, get_or, set, inl, inr}
use Rattle.std.specs.Prelude.{bit_and, replicate, ◌↔◌}
use Rattle.std.specs.Int.{bit_at, trailing_zeros, w32, w64}
use Rattle.std.proofs.lemmas.Bool.{cases_eq}
use Rattle.std.proofs.lemmas.List.{ext_get_or, get_or-replicate, get_or-set_other, get_or-set_same, get_or_default, length-replicate, length-set}
use Rattle.std.proofs.lemmas.List.FromFn.{get_or-map-range_with_len, length-map-range_with_len}
use Rattle.std.proofs.lemmas.Nat.Bits.{bit_at-trailing_zeros, bit_at-zero}
use Rattle.fcfc_router.specs.Tree.{HasNone, IsFirst}
use Rattle.flow_channels.specs.Marks.{HasParts, spot_marks}

spots_count : (parts : List ℕ) → length (spot_marks parts) ≡ 2048
spots_count parts = length-map-range_with_len (λ place. bit_at (get_or parts (place / 64) 0) (place % 64)) 0 2048

spot_at : (parts : List ℕ) (place : ℕ) → place < 2048 → get_or (spot_marks parts) place 0 ≡ bit_at (get_or parts (place / 64) 0) (place % 64)
spot_at parts place low = get_or-map-range_with_len (λ k. bit_at (get_or parts (k / 64) 0) (k % 64)) 0 2048 place place 0 low (omega arith)

-- none is in
pub no_spots : spot_marks (replicate 32 0) ≡ replicate 2048 0
no_spots =
    let parts : List ℕ = replicate 32 0 in
    let count = spots_count parts in
    let size = length-replicate {A = ℕ} 2048 0 in
    ext_get_or 0 (spot_marks parts) (replicate 2048 0) (omega arith) (λ place inside.
    let within : place < 2048 = omega arith in
    spot_at parts place within
    ∙ ap (λ (n : ℕ). bit_at n (place % 64)) (get_or-replicate 32 (place / 64) 0 0 (omega arith))
    ∙ bit_at-zero (place % 64)
    ∙ sym (get_or-replicate 2048 place 0 0 within))

pub no_parts : HasParts (replicate 32 0) 0
no_parts = record {
  count = length-replicate {A = ℕ} 32 0;
  each = λ part low. (
    λ has. absurd (let none = bit_at-zero part in omega arith),
    λ some. absurd (some (get_or-replicate 32 part 0 0 low)),
  );
}

-- a place is put in or taken out
module _ (old new : List ℕ) (place mark bits : ℕ) (count : length old ≡ 32) (low : place < 2048) (is : new ≡ set old (place / 64) bits) (here : bit_at bits (place % 64) ≡ mark) (others : (bit : ℕ) → bit < 64 → bit ≢ place % 64 → bit_at bits bit ≡ bit_at (get_or old (place / 64) 0) bit) where
  part_here : get_or new (place / 64) 0 ≡ bits
  part_here = ap (λ (parts : List ℕ). get_or parts (place / 64) 0) is ∙ get_or-set_same old (place / 64) bits 0 (omega arith)

  others_same : (other : ℕ) → other ≢ place → bit_at (get_or new (other / 64) 0) (other % 64) ≡ bit_at (get_or old (other / 64) 0) (other % 64)
  others_same other apart = elim (cases_eq (other / 64) (place / 64)) [
    | inl part ↦ (
        let differs : other % 64 ≢ place % 64 = (λ bit. apart (omega arith)) in
        ap (λ (k : ℕ). bit_at (get_or new k 0) (other % 64)) part
        ∙ ap (λ (n : ℕ). bit_at n (other % 64)) part_here
        ∙ others (other % 64) (omega arith) differs
        ∙ ap (λ (k : ℕ). bit_at (get_or old k 0) (other % 64)) (sym part))
    | inr away ↦ ap (λ (n : ℕ). bit_at n (other % 64)) (ap (λ (parts : List ℕ). get_or parts (other / 64) 0) is ∙ get_or-set_other old (place / 64) (other / 64) bits 0 away)
  ]

  pub placed : spot_marks new ≡ set (spot_marks old) place mark
  placed =
      let old_count = spots_count old in
      let new_count = spots_count new in
      let set_count = length-set (spot_marks old) place mark in
      ext_get_or 0 (spot_marks new) (set (spot_marks old) place mark) (omega arith) (λ other inside.
      let within : other < 2048 = omega arith in
      elim (cases_eq other place) [
        | inl same ↦ spot_at new other within ∙ ap (λ (k : ℕ). bit_at (get_or new (k / 64) 0) (k % 64)) same
            ∙ ap (λ (n : ℕ). bit_at n (place % 64)) part_here ∙ here
            ∙ sym (get_or-set_same (spot_marks old) place mark 0 (omega arith)) ∙ ap (λ (k : ℕ). get_or (set (spot_marks old) place mark) k 0) (sym same)
        | inr apart ↦ spot_at new other within ∙ others_same other apart ∙ sym (spot_at old other within)
            ∙ sym (get_or-set_other (spot_marks old) place other mark 0 apart)
      ])

-- and the part where it was put or taken is one that has a bit, or no more
pub parts_put : (old new : List ℕ) (some more k bits : ℕ) → HasParts old some → k < 32 → new ≡ set old k bits → ((bit_at more k ≡ 1) ↔ (bits ≢ 0)) → ((other : ℕ) → other < 32 → other ≢ k → bit_at more other ≡ bit_at some other) → HasParts new more
parts_put old new some more k bits has low is here others =
    let count = has.count in
    record {
      count = ap (λ (parts : List ℕ). length parts) is ∙ length-set old k bits ∙ has.count;
      each = λ part within. elim (cases_eq part k) [
        | inl same ↦ subst (λ (p : ℕ). (bit_at more p ≡ 1) ↔ (get_or new p 0 ≢ 0)) (sym same)
            (subst (λ (n : ℕ). (bit_at more k ≡ 1) ↔ (n ≢ 0)) (sym (ap (λ (parts : List ℕ). get_or parts k 0) is ∙ get_or-set_same old k bits 0 (omega arith))) here)
        | inr apart ↦ subst (λ (n : ℕ). (bit_at more part ≡ 1) ↔ (n ≢ 0)) (sym (ap (λ (parts : List ℕ). get_or parts part 0) is ∙ get_or-set_other old k part bits 0 apart))
            (subst (λ (b : ℕ). (b ≡ 1) ↔ (get_or old part 0 ≢ 0)) (sym (others part within apart)) (has.each part within))
      ];
    }

-- a set with a bit is not empty
pub has_some : (bits bit : ℕ) → bit_at bits bit ≡ 1 → bits ≢ 0
has_some bits bit has none = absurd (let zero = sym (ap (λ (n : ℕ). bit_at n bit) none ∙ bit_at-zero bit) ∙ has in omega arith)

-- so a set of which bits are left was not empty
pub had_some : (old new bit : ℕ) → new < 2 ^ 64 → new ≢ 0 → bit_at new bit ≡ 0 → ((other : ℕ) → other < 64 → other ≢ bit → bit_at new other ≡ bit_at old other) → old ≢ 0
had_some old new bit fits some out others =
    let h = bit_at-trailing_zeros w64 new (omega arith) fits in
    let apart : trailing_zeros w64 new ≢ bit = (λ same. absurd (let e = sym h.1 ∙ ap (bit_at new) same ∙ out in omega arith)) in
    has_some old (trailing_zeros w64 new) (sym (others (trailing_zeros w64 new) h.0 apart) ∙ h.1)

pub emptied : (old new : List ℕ) (some more k bits : ℕ) → HasParts old some → k < 32 → new ≡ set old k bits → bits ≡ 0 → bit_at more k ≡ 0 → ((other : ℕ) → other < 32 → other ≢ k → bit_at more other ≡ bit_at some other) → HasParts new more
emptied old new some more k bits has low is none out others = parts_put old new some more k bits has low is ((λ one. absurd (omega arith)), (λ full. absurd (full none))) others

pub still_some : (old new : List ℕ) (some k bits bit : ℕ) → HasParts old some → k < 32 → new ≡ set old k bits → bits < 2 ^ 64 → bits ≢ 0 → bit_at bits bit ≡ 0 → ((other : ℕ) → other < 64 → other ≢ bit → bit_at bits other ≡ bit_at (get_or old k 0) other) → HasParts new some
still_some old new some k bits bit has low is fits full out others = parts_put old new some some k bits has low is ((λ _. full), (λ _. (has.each k low).1 (had_some (get_or old k 0) bits bit fits full out others))) (λ other below apart. refl)

-- the least one
empty_part : (parts : List ℕ) (some part : ℕ) → HasParts parts some → part < 32 → bit_at some part ≡ 0 → get_or parts part 0 ≡ 0
empty_part parts some part has low out = elim (cases_eq (get_or parts part 0) 0) [
  | inl none ↦ none
  | inr full ↦ absurd (let one = (has.each part low).1 full in omega arith)
]

pub none_placed : (parts : List ℕ) (some : ℕ) → HasParts parts some → some ≡ 0 → HasNone 1 (spot_marks parts)
none_placed parts some has none place d low =
    let count = spots_count parts in
    let within : place < 2048 = omega arith in
    let empty = empty_part parts some (place / 64) has (omega arith) (ap (λ (n : ℕ). bit_at n (place / 64)) none ∙ bit_at-zero (place / 64)) in
    let is : get_or (spot_marks parts) place d ≡ 0 = get_or_default (spot_marks parts) place d 0 low ∙ spot_at parts place within ∙ ap (λ (n : ℕ). bit_at n (place % 64)) empty ∙ bit_at-zero (place % 64) in
    ap (λ (n : ℕ). bit_and n 1) is

module _ (parts : List ℕ) (some part bits place : ℕ) (has : HasParts parts some) (more : 0 < some) (fits : some < 2 ^ 32) (part_is : part ≡ trailing_zeros w32 some) (bits_is : bits ≡ get_or parts part 0) (small : bits < 2 ^ 64) (place_is : place ≡ 64 * part + trailing_zeros w64 bits) where
  part_bit : (part < 32) × (bit_at some part ≡ 1) × ((i : ℕ) → i < part → bit_at some i ≡ 0)
  part_bit = subst (λ (p : ℕ). (p < 32) × (bit_at some p ≡ 1) × ((i : ℕ) → i < p → bit_at some i ≡ 0)) (sym part_is) (bit_at-trailing_zeros w32 some more fits)

  full : bits ≢ 0
  full none = absurd ((has.each part part_bit.0).0 part_bit.1 (sym bits_is ∙ none))

  place_bit : (trailing_zeros w64 bits < 64) × (bit_at bits (trailing_zeros w64 bits) ≡ 1) × ((i : ℕ) → i < trailing_zeros w64 bits → bit_at bits i ≡ 0)
  place_bit = let f = full in bit_at-trailing_zeros w64 bits (omega arith) small

  in_part : place / 64 ≡ part
  in_part = let low = place_bit.0 in omega arith

  at_bit : place % 64 ≡ trailing_zeros w64 bits
  at_bit = let low = place_bit.0 in omega arith

  below : place < 2048
  below = let low = place_bit.0 in let few = part_bit.0 in omega arith

  earlier : (other : ℕ) → other < place → bit_at (get_or parts (other / 64) 0) (other % 64) ≡ 0
  earlier other less =
      let low = place_bit.0 in
      let few = part_bit.0 in
      elim (cases_eq (other / 64) part) [
        | inl same ↦ ap (λ (k : ℕ). bit_at (get_or parts k 0) (other % 64)) same ∙ ap (λ (n : ℕ). bit_at n (other % 64)) (sym bits_is) ∙ place_bit.2 (other % 64) (omega arith)
        | inr apart ↦ ap (λ (n : ℕ). bit_at n (other % 64)) (empty_part parts some (other / 64) has (omega arith) (part_bit.2 (other / 64) (omega arith))) ∙ bit_at-zero (other % 64)
      ]

  pub first_placed : IsFirst 1 (spot_marks parts) place
  first_placed =
      let count = spots_count parts in
      let low = below in
      record {
        within = omega arith;
        has = λ none. absurd (
            let is : get_or (spot_marks parts) place 0 ≡ 1 = spot_at parts place below ∙ ap (λ (k : ℕ). bit_at (get_or parts k 0) (place % 64)) in_part ∙ ap (λ (n : ℕ). bit_at n (place % 64)) (sym bits_is) ∙ ap (bit_at bits) at_bit ∙ place_bit.1 in
            let one : bit_and (get_or (spot_marks parts) place 0) 1 ≡ 1 = ap (λ (n : ℕ). bit_and n 1) is in
            omega arith);
        before = λ other less. ap (λ (n : ℕ). bit_and n 1) (spot_at parts other (omega arith) ∙ earlier other less);
      }
