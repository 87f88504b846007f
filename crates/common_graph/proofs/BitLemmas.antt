-- Bits of a word.
use Rattle.std.proofs.Common.{◌≡◌, ◌≢◌, ◌∙◌, sym, ap, ℕ, ◌*◌, ◌%◌, ◌^◌, ◌<◌, arith, inl, inr, ◌↔◌}
use Rattle.std.specs.Int.{bit_at, bit_not, w64, trailing_zeros}
use Rattle.std.specs.Int.RustNames.{bit_and}
use Rattle.std.proofs.lemmas.Bool.{cases_eq, cases_lt}
use Rattle.std.proofs.lemmas.Nat.{and_le_l}
use Rattle.std.proofs.lemmas.Nat.Bits.{bit_at_above, bit_at_clear_same, bit_at_clear_other, bit_at-trailing_zeros}

pub lowest_is : (word : ℕ) → word ≢ 0 → word < 2 ^ 64 → (trailing_zeros w64 word < 64) × (bit_at word (trailing_zeros w64 word) ≡ 1) × ((i : ℕ) → i < trailing_zeros w64 word → bit_at word i ≡ 0)
lowest_is word some fits = bit_at-trailing_zeros w64 word (omega arith) fits

abbrev pub cleared : ℕ → ℕ → ℕ
cleared word bit = bit_and word (bit_not w64 (1 * 2 ^ bit % 2 ^ 64))

pub cleared_is : (word bit : ℕ) → word < 2 ^ 64 → bit < 64 → (other : ℕ) → ((bit_at (cleared word bit) other ≡ 1) ↔ ((bit_at word other ≡ 1) × (other ≢ bit)))
cleared_is word bit fits low p = elim (cases_eq p bit) [
  | inl same ↦ (
    λ is. absurd (let z = bit_at_clear_same w64 word bit low in let e : bit_at (cleared word bit) p ≡ bit_at (cleared word bit) bit = ap (bit_at (cleared word bit)) same in omega arith),
    λ both. absurd (both.1 same),
  )
  | inr other ↦ elim (cases_lt p 64) [
    | inl p_low ↦ (let e = bit_at_clear_other w64 word bit low p p_low other in (λ is. (sym e ∙ is, other), λ both. e ∙ both.0))
    | inr high ↦ (
        let z = bit_at_above word 64 p fits high in
        let le = and_le_l word (bit_not w64 (1 * 2 ^ bit % 2 ^ 64)) in
        let small : cleared word bit < 2 ^ 64 = omega arith in
        let y = bit_at_above (cleared word bit) 64 p small high in
        (λ is. absurd (omega arith), λ both. absurd (let b = both.0 in omega arith)))
  ]
]

pub cleared_less : (word bit : ℕ) → bit < 64 → bit_at word bit ≡ 1 → cleared word bit < word
cleared_less word bit low has =
    let le = and_le_l word (bit_not w64 (1 * 2 ^ bit % 2 ^ 64)) in
    elim (cases_eq (cleared word bit) word) [
      | inl same ↦ absurd (let z = bit_at_clear_same w64 word bit low in let e : bit_at (cleared word bit) bit ≡ bit_at word bit = ap (λ (n : ℕ). bit_at n bit) same in omega arith)
      | inr other ↦ omega arith
    ]
