-- One bit more in a word.
use Rattle.std.proofs.Common.{◌≡◌, ◌≢◌, ◌∙◌, sym, ap, ℕ, ◌*◌, ◌%◌, ◌^◌, ◌<◌, List, length, get_or, set, inl, inr, ◌⊎◌, ◌↔◌}
use Rattle.std.specs.Int.{bit_at, w64}
use Rattle.std.specs.Int.RustNames.{bit_or}
use Rattle.std.proofs.lemmas.Bool.{cases_eq}
use Rattle.std.proofs.lemmas.List.{get_or-set_other, get_or-set_same}
use Rattle.std.proofs.lemmas.Nat.Bits.{bit_at_set_same, bit_at_set_other}
use Rattle.fabric_routes.specs.Waves.{HasBit}

abbrev put : List ℕ → ℕ → ℕ → List ℕ
put words switch bit = set words switch (bit_or (get_or words switch 0) (1 * 2 ^ bit % 2 ^ 64))

module _ (words : List ℕ) (switch bit : ℕ) (low : switch < length words) (fits : bit < 64) where
  here : (one other : ℕ) → one ≡ switch → bit_at (get_or (put words switch bit) one 0) other ≡ bit_at (bit_or (get_or words switch 0) (1 * 2 ^ bit % 2 ^ 64)) other
  here one other e = ap (λ (k : ℕ). bit_at (get_or (put words switch bit) k 0) other) e ∙ ap (λ (n : ℕ). bit_at n other) (get_or-set_same words switch (bit_or (get_or words switch 0) (1 * 2 ^ bit % 2 ^ 64)) 0 low)

  there : (one other : ℕ) → one ≢ switch → bit_at (get_or (put words switch bit) one 0) other ≡ bit_at (get_or words one 0) other
  there one other away = ap (λ (n : ℕ). bit_at n other) (get_or-set_other words switch one (bit_or (get_or words switch 0) (1 * 2 ^ bit % 2 ^ 64)) 0 away)

  kept : (one other : ℕ) → (one ≡ switch → other ≡ bit → ⊥) → bit_at (get_or (put words switch bit) one 0) other ≡ bit_at (get_or words one 0) other
  kept one other away = elim (cases_eq one switch) [
    | inl same ↦ here one other same ∙ bit_at_set_other w64 (get_or words switch 0) bit fits other (away same) ∙ ap (λ (k : ℕ). bit_at (get_or words k 0) other) (sym same)
    | inr else ↦ there one other else
  ]

  new : (one other : ℕ) → one ≡ switch → other ≡ bit → bit_at (get_or (put words switch bit) one 0) other ≡ 1
  new one other same put_in = here one other same ∙ ap (bit_at (bit_or (get_or words switch 0) (1 * 2 ^ bit % 2 ^ 64))) put_in ∙ bit_at_set_same w64 (get_or words switch 0) bit fits

  pub marked : (one other : ℕ) → (HasBit (put words switch bit) one other ↔ (HasBit words one other ⊎ ((one ≡ switch) × (other ≡ bit))))
  marked one other = (
    λ has. elim (cases_eq one switch) [
      | inl same ↦ elim (cases_eq other bit) [
        | inl put_in ↦ inr (same, put_in)
        | inr else ↦ inl (sym (kept one other (λ _ e. else e)) ∙ has)
      ]
      | inr else ↦ inl (sym (kept one other (λ e _. else e)) ∙ has)
    ],
    λ either. elim either [
      | inr both ↦ new one other both.0 both.1
      | inl had ↦ elim (cases_eq one switch) [
        | inl same ↦ elim (cases_eq other bit) [
          | inl put_in ↦ new one other same put_in
          | inr else ↦ kept one other (λ _ e. else e) ∙ had
        ]
        | inr else ↦ kept one other (λ e _. else e) ∙ had
      ]
    ],
  )
