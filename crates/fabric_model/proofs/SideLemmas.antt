-- Sides in four bytes, by their places.
use Rattle.std.proofs.Common.{◌≡◌, ◌≢◌, ◌∙◌, ap, refl, ℕ, ◌+◌, ◌-◌, ◌*◌, ◌<◌, ◌≤◌, ◌&&◌, Bool, true, false, cond, ltb, List, arith, length, get_or, set, replicate, inl, inr, ◌⊎◌}
use Rattle.std.proofs.lemmas.Bool.{cases_lt}
use Rattle.std.proofs.lemmas.Bool.Decides.{nat_tests}
use Rattle.std.proofs.lemmas.List.{get_or-map, get_or-replicate, get_or-set_other, get_or-set_same, get_or_past, length-map, length-replicate, map-set}
use Rattle.std.proofs.lemmas.Nat.{mul-add-lt, same_from_place}
use Rattle.fabric_model.specs.declared.node.Side.{Side}
use Rattle.fabric_model.specs.declared.node.Side.TheVariants.{Bare}
use Rattle.fabric_model.specs.Sides.{side_in, sides_in}

abbrev pub is_used : ℕ → ℕ → Bool
is_used most port = ltb 0 port && ltb port (most + 1)

abbrev pub chosen : ℕ → List Side → ℕ → ℕ → Side
chosen most sides switch port = cond (is_used most port) (get_or sides (switch * most + (port - 1)) Bare) Bare

pub used : (most port : ℕ) → 0 < port → port ≤ most → is_used most port ≡ true
used most port some low = grind (arith, nat_tests)

pub used_low : (most port : ℕ) → is_used most port ≡ true → (0 < port) × (port ≤ most)
used_low most port is = grind (arith, nat_tests)

-- a place is one of the sides
pub place_low : (n most switch port count : ℕ) → switch < n → 0 < port → port ≤ most → count ≡ n * most → switch * most + (port - 1) < count
place_low n most switch port count low some fits is = let b = mul-add-lt switch most (port - 1) n low (omega arith) in omega arith

module _ (n most switch port word : ℕ) (words : List ℕ) (low : switch < n) (some : 0 < port) (fits : port ≤ most) (count : length words ≡ n * most) where
  here : switch * most + (port - 1) < length (sides_in words)
  here = let l = length-map words side_in in place_low n most switch port (length (sides_in words)) low some fits (l ∙ count)

  as_set : sides_in (set words (switch * most + (port - 1)) word) ≡ set (sides_in words) (switch * most + (port - 1)) (side_in word)
  as_set = map-set side_in words (switch * most + (port - 1)) word

  pub put_there : chosen most (sides_in (set words (switch * most + (port - 1)) word)) switch port ≡ side_in word
  put_there =
      ap (λ (b : Bool). cond b (get_or (sides_in (set words (switch * most + (port - 1)) word)) (switch * most + (port - 1)) Bare) Bare) (used most port some fits)
      ∙ ap (λ (l : List Side). get_or l (switch * most + (port - 1)) Bare) as_set
      ∙ get_or-set_same (sides_in words) (switch * most + (port - 1)) (side_in word) Bare here

  pub put_others : (s p : ℕ) → (s ≢ switch) ⊎ (p ≢ port) → chosen most (sides_in (set words (switch * most + (port - 1)) word)) s p ≡ chosen most (sides_in words) s p
  put_others s p differs = by (is_used most p) (used_low most p)
    where
      by : (b : Bool) → (b ≡ true → (0 < p) × (p ≤ most)) → cond b (get_or (sides_in (set words (switch * most + (port - 1)) word)) (s * most + (p - 1)) Bare) Bare ≡ cond b (get_or (sides_in words) (s * most + (p - 1)) Bare) Bare
      by false is = refl
      by true is =
          let fit = is refl in
          let apart : s * most + (p - 1) ≢ switch * most + (port - 1) = λ same. (
          let parts = same_from_place s (p - 1) switch (port - 1) most (omega arith) (omega arith) same in
          elim differs [
            | inl other ↦ other parts.0
            | inr other ↦ other (let q = parts.1 in omega arith)
          ]) in
          ap (λ (l : List Side). get_or l (s * most + (p - 1)) Bare) as_set
          ∙ get_or-set_other (sides_in words) (switch * most + (port - 1)) (s * most + (p - 1)) (side_in word) Bare apart

-- bare sides
pub bare_at : (count : ℕ) (k : ℕ) → get_or (sides_in (replicate count 4294967295)) k Bare ≡ Bare
bare_at count k = elim (cases_lt k count) [
  | inl low ↦ (
      let l = length-replicate {A = ℕ} count 4294967295 in
      get_or-map side_in (replicate count 4294967295) k 0 Bare (omega arith) ∙ ap side_in (get_or-replicate count k 4294967295 0 low))
  | inr past ↦ (
      let l = length-replicate {A = ℕ} count 4294967295 in
      let m = length-map (replicate count 4294967295) side_in in
      get_or_past (sides_in (replicate count 4294967295)) k Bare (omega arith))
]

pub all_bare : (count most switch port : ℕ) → chosen most (sides_in (replicate count 4294967295)) switch port ≡ Bare
all_bare count most switch port = by (is_used most port)
  where
    by : (b : Bool) → cond b (get_or (sides_in (replicate count 4294967295)) (switch * most + (port - 1)) Bare) Bare ≡ Bare
    by false = refl
    by true = bare_at count (switch * most + (port - 1))
