-- One bit more in a row.
use Rattle.std.proofs.Common.{◌≡◌, ◌≢◌, ◌∙◌, sym, ap, subst, refl, ℕ, ◌+◌, ◌*◌, ◌/◌, ◌%◌, ◌^◌, ◌<◌, List, arith, length, get_or, set, mul_comm, inl, inr, ◌⊎◌, ◌↔◌}
use Rattle.std.specs.Int.{bit_at, w64}
use Rattle.std.specs.Int.RustNames.{bit_or}
use Rattle.std.proofs.lemmas.Bool.{cases_eq}
use Rattle.std.proofs.lemmas.List.{get_or-set_other, get_or-set_same}
use Rattle.std.proofs.lemmas.Nat.{mul-add-lt, same_from_place}
use Rattle.std.proofs.lemmas.Nat.Bits.{bit_at_set_same, bit_at_set_other}
use Rattle.common_graph.specs.Graph.{GraphOf, LeadsTo}

-- the place of a part of a row is within all rows
pub row_place : (a b w c : ℕ) → a < b → c < w → a * w + c < b * w
row_place a b w c less low = subst (λ (n : ℕ). a * w + c < n) (mul_comm w b) (mul-add-lt a w c b less low)

module _ (wide : ℕ) (bases old new : List ℕ) (node offset : ℕ) (low : node < length bases) (fits : offset < 64 * wide) (room : node * wide + offset / 64 < length old) (is : new ≡ set old (node * wide + offset / 64) (bit_or (get_or old (node * wide + offset / 64) 0) (1 * 2 ^ (offset % 64) % 2 ^ 64))) where
  graph : List ℕ → GraphOf
  graph words = record { wide = wide; bases = bases; words = words }

  place : ℕ
  place = node * wide + offset / 64

  bit_low : offset % 64 < 64
  bit_low = omega arith

  part_low : offset / 64 < wide
  part_low = omega arith

  here : (at : ℕ) → at ≡ node * wide + offset / 64 → get_or new at 0 ≡ bit_or (get_or old at 0) (1 * 2 ^ (offset % 64) % 2 ^ 64)
  here at e = ap (λ (ws : List ℕ). get_or ws at 0) is ∙ ap (λ (k : ℕ). get_or (set old (node * wide + offset / 64) (bit_or (get_or old (node * wide + offset / 64) 0) (1 * 2 ^ (offset % 64) % 2 ^ 64))) k 0) e ∙ get_or-set_same old (node * wide + offset / 64) (bit_or (get_or old (node * wide + offset / 64) 0) (1 * 2 ^ (offset % 64) % 2 ^ 64)) 0 room ∙ ap (λ (k : ℕ). bit_or (get_or old k 0) (1 * 2 ^ (offset % 64) % 2 ^ 64)) (sym e)

  there : (at : ℕ) → at ≢ node * wide + offset / 64 → get_or new at 0 ≡ get_or old at 0
  there at away = ap (λ (ws : List ℕ). get_or ws at 0) is ∙ get_or-set_other old (node * wide + offset / 64) at (bit_or (get_or old (node * wide + offset / 64) 0) (1 * 2 ^ (offset % 64) % 2 ^ 64)) 0 away

  -- a bit of a word is as it was, or is the one that is put in
  bits : (one part bit : ℕ) → part < wide → (bit_at (get_or new (one * wide + part) 0) bit ≡ bit_at (get_or old (one * wide + part) 0) bit) ⊎ ((one ≡ node) × (part ≡ offset / 64) × (bit ≡ offset % 64))
  bits one part bit within = elim (cases_eq (one * wide + part) (node * wide + offset / 64)) [
    | inl same ↦ (
        let parts = same_from_place one part node (offset / 64) wide within part_low same in
        elim (cases_eq bit (offset % 64)) [
          | inl put ↦ inr (parts.0, parts.1, put)
          | inr other ↦ inl (ap (λ (n : ℕ). bit_at n bit) (here (one * wide + part) same) ∙ bit_at_set_other w64 (get_or old (one * wide + part) 0) (offset % 64) bit_low bit other)
        ])
    | inr away ↦ inl (ap (λ (n : ℕ). bit_at n bit) (there (one * wide + part) away))
  ]

  put_in : bit_at (get_or new (node * wide + offset / 64) 0) (offset % 64) ≡ 1
  put_in = ap (λ (n : ℕ). bit_at n (offset % 64)) (here (node * wide + offset / 64) refl) ∙ bit_at_set_same w64 (get_or old (node * wide + offset / 64) 0) (offset % 64) bit_low

  pub inserted : (one other : ℕ) → (LeadsTo (record { wide = wide; bases = bases; words = new }) one other ↔ (LeadsTo (record { wide = wide; bases = bases; words = old }) one other ⊎ ((one ≡ node) × (other ≡ get_or bases node 0 + offset))))
  inserted one other = (
    λ leads. elim (bits one leads.part leads.bit leads.within) [
      | inl as_was ↦ inl (record { low = leads.low; part = leads.part; within = leads.within; bit = leads.bit; fits = leads.fits; has = sym as_was ∙ leads.has; is = leads.is })
      | inr put ↦ inr (put.0, (let e = leads.is in let b = ap (λ (c : ℕ). get_or bases c 0) put.0 in let p = put.1 in let q = put.2 in omega arith))
    ],
    λ either. elim either [
      | inl leads ↦ elim (bits one leads.part leads.bit leads.within) [
        | inl as_was ↦ record { low = leads.low; part = leads.part; within = leads.within; bit = leads.bit; fits = leads.fits; has = as_was ∙ leads.has; is = leads.is }
        | inr put ↦ record { low = leads.low; part = leads.part; within = leads.within; bit = leads.bit; fits = leads.fits; has = subst (λ (k : ℕ). bit_at (get_or new (k * wide + leads.part) 0) leads.bit ≡ 1) (sym put.0) (subst (λ (k : ℕ). bit_at (get_or new (node * wide + k) 0) leads.bit ≡ 1) (sym put.1) (ap (bit_at (get_or new (node * wide + offset / 64) 0)) put.2 ∙ put_in)); is = leads.is }
      ]
      | inr new_one ↦ record { low = subst (λ (c : ℕ). c < length bases) (sym new_one.0) low; part = offset / 64; within = part_low; bit = offset % 64; fits = bit_low; has = subst (λ (k : ℕ). bit_at (get_or new (k * wide + offset / 64) 0) (offset % 64) ≡ 1) (sym new_one.0) put_in; is = (let e = new_one.1 in let b = ap (λ (c : ℕ). get_or bases c 0) new_one.0 in omega arith) }
    ],
  )
