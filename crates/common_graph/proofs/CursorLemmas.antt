-- Places in the row of a node.
use Rattle.std.proofs.Common.{◌≢◌, ◌≡◌, ◌∙◌, nat_eq, refl, sym, ap, subst, ℕ, ◌+◌, ◌-◌, ◌*◌, ◌/◌, ◌%◌, ◌^◌, ◌<◌, ◌≤◌, ◌⊎◌, ◌↔◌, arith, length, inl, inr}
use Rattle.std.specs.Int.{bit_at}
use Rattle.std.specs.Prelude.{IsTrue, slice_index}
use Rattle.std.proofs.lemmas.Bool.{cases_eq, cases_lt, eqb-true, eq-eqb}
use Rattle.std.proofs.lemmas.Nat.{shr-shr, pow_pos}
use Rattle.std.proofs.Math.Nat.{mod-eq_of_lt, div-mul-le_self}
use Rattle.std.proofs.lemmas.Nat.Bits.{bit_at-zero, bit_at_above, bit_at_cat_low, bit_at_cat_high}
use Rattle.common_graph.specs.declared.graph.Cursor.{Cursor}
use Rattle.common_graph.specs.Graph.{AreWithin, GraphOf, LeadsTo, IsNode, IsNext, HasNoNext, word_at}
use Rattle.common_graph.specs.Rows.{IsMasked, StandsAt}

-- a bit from one on is a bit of what is ahead
bit_ahead : (word from other : ℕ) → from ≤ other → bit_at (word / 2 ^ from) (other - from) ≡ bit_at word other
bit_ahead word from other le = ap (λ (x : ℕ). x % 2) (shr-shr word from (other - from)) ∙ ap (bit_at word) (let e : from + (other - from) ≡ other = omega arith in e)

bit_low : (word bit : ℕ) → word < 2 ^ 64 → bit_at word bit ≡ 1 → bit < 64
bit_low word bit fits has = elim (cases_lt bit 64) [
  | inl low ↦ low
  | inr high ↦ absurd (let z = bit_at_above word 64 bit fits high in omega arith)
]

no_bit : (bit : ℕ) → bit_at 0 bit ≡ 1 → ⊥
no_bit bit has = absurd (let z = bit_at-zero bit in omega arith)

-- the place at the end of a row
pub at_end : (graph : GraphOf) (node from : ℕ) → AreWithin graph → length graph.bases < 2 ^ 31 → graph.wide ≤ 64 → HasNoNext graph node from → StandsAt graph node (record { from = from; part = graph.wide; first = 0; rest = 0 })
at_end graph node from inside count few none = record {
  within = inside;
  count = count;
  few = few;
  part = omega arith;
  first = λ less. absurd (omega arith);
  low = omega arith;
  near = λ less. absurd (omega arith);
  rest = λ bit has. absurd (no_bit bit has);
  left = λ next after leads. absurd (none next after leads);
}

-- a node beyond the last leads nowhere, and a row has no more than its words
pub none_beyond : (graph : GraphOf) (node from : ℕ) → length graph.bases ≤ node → HasNoNext graph node from
none_beyond graph node from high other after leads = let low = leads.low in omega arith

pub none_after : (graph : GraphOf) (node from : ℕ) → graph.wide ≤ (from - slice_index graph.bases node) / 64 → HasNoNext graph node from
none_after graph node from high other after leads =
    let is = leads.is in
    let within = leads.within in
    let fits = leads.fits in
    omega arith

-- a bit of a word of a row
step_by : (graph : GraphOf) (node part bit word : ℕ) → IsNode graph node → part < graph.wide → word ≡ word_at graph node part → word < 2 ^ 64 → bit_at word bit ≡ 1 → (first : ℕ) → first ≡ slice_index graph.bases node + 64 * part → LeadsTo graph node (first + bit)
step_by graph node part bit word low within is fits has first at = record {
  low = low;
  part = part;
  within = within;
  bit = bit;
  fits = bit_low word bit fits has;
  has = ap (λ (x : ℕ). bit_at x bit) (sym is) ∙ has;
  is = omega arith;
}

-- the place at which a number is
pub begins : (graph : GraphOf) (node from word rest : ℕ) → AreWithin graph → length graph.bases < 2 ^ 31 → graph.wide ≤ 64 → IsNode graph node → slice_index graph.bases node < 2 ^ 32 → (from - slice_index graph.bases node) / 64 < graph.wide → word ≡ word_at graph node ((from - slice_index graph.bases node) / 64) → word < 2 ^ 64 → IsMasked word ((from - slice_index graph.bases node) % 64) rest → StandsAt graph node (record { from = from; part = (from - slice_index graph.bases node) / 64; first = slice_index graph.bases node + 64 * ((from - slice_index graph.bases node) / 64); rest = rest })
begins graph node from word rest inside count few is low within at fits masked = record {
  within = inside;
  count = count;
  few = few;
  part = omega arith;
  first = λ _. refl;
  low = omega arith;
  near = λ _. omega arith;
  rest = λ bit has.
      let both = (masked bit).0 has in
      let above = both.1 in
      (bit_low word bit fits both.0, step_by graph node part bit word is within at fits both.0 (base + 64 * part) refl, omega arith);
  left = λ next after leads.
      let e = leads.is in
      let small = leads.fits in
      elim (cases_eq leads.part part) [
        | inl same ↦ inl (leads.bit, (masked leads.bit).1 (ap (λ (x : ℕ). bit_at x leads.bit) (at ∙ ap (word_at graph node) (sym same)) ∙ leads.has, omega arith), omega arith)
        | inr other ↦ inr (within, omega arith)
      ];
}
  where
    base : ℕ
    base = slice_index graph.bases node

    part : ℕ
    part = (from - slice_index graph.bases node) / 64

module _ (graph : GraphOf) (node : ℕ) (old : Cursor) (stands : StandsAt graph node old) where
  -- the next word, if the bits of one are used up
  pub turns : old.rest ≡ 0 → IsNode graph node → old.part + 1 < graph.wide → (word : ℕ) → word ≡ word_at graph node (old.part + 1) → word < 2 ^ 64 → StandsAt graph node (record { from = old.from; part = old.part + 1; first = old.first + 64; rest = word })
  turns used is within word at fits =
      let first = stands.first (omega arith) in
      let low = stands.low in
      let near = stands.near (omega arith) in
      record {
        within = stands.within;
        count = stands.count;
        few = stands.few;
        part = omega arith;
        first = λ _. omega arith;
        low = omega arith;
        near = λ _. omega arith;
        rest = λ bit has. (bit_low word bit fits has, step_by graph node (old.part + 1) bit word is within at fits has (old.first + 64) (omega arith), omega arith);
        left = λ next after leads. elim (stands.left next after leads) [
          | inl (bit, has, at_bit) ↦ absurd (no_bit bit (ap (λ (x : ℕ). bit_at x bit) (sym used) ∙ has))
          | inr (still, far) ↦ (
              let e = leads.is in
              let small = leads.fits in
              elim (cases_eq leads.part (old.part + 1)) [
                | inl same ↦ inl (leads.bit, ap (λ (x : ℕ). bit_at x leads.bit) (at ∙ ap (word_at graph node) (sym same)) ∙ leads.has, omega arith)
                | inr other ↦ inr (within, omega arith)
              ])
        ];
      }

  -- nothing is left
  pub none_left : old.rest ≡ 0 → (graph.wide ≤ old.part + 1) ⊎ (length graph.bases ≤ node) → HasNoNext graph node old.from
  none_left used end other after leads = elim (stands.left other after leads) [
    | inl (bit, has, at_bit) ↦ no_bit bit (ap (λ (x : ℕ). bit_at x bit) (sym used) ∙ has)
    | inr (still, far) ↦ (
        let first = stands.first still in
        let e = leads.is in
        let small = leads.fits in
        let within = leads.within in
        let low = leads.low in
        elim end [
          | inl last ↦ omega arith
          | inr high ↦ omega arith
        ])
  ]

  module _ (bit rest : ℕ) (has : bit_at old.rest bit ≡ 1) (lowest : (other : ℕ) → other < bit → bit_at old.rest other ≡ 0) (without : (other : ℕ) → ((bit_at rest other ≡ 1) ↔ ((bit_at old.rest other ≡ 1) × (other ≢ bit)))) where
    least : (next : ℕ) → old.from ≤ next → LeadsTo graph node next → old.first + bit ≤ next
    least next after leads = elim (stands.left next after leads) [
      | inl (other, is, at) ↦ elim (cases_lt other bit) [
        | inl less ↦ absurd (let z = lowest other less in omega arith)
        | inr more ↦ omega arith
      ]
      | inr (still, far) ↦ (let below = (stands.rest bit has).0 in omega arith)
    ]

    -- the lowest bit is the next node
    pub takes : IsNext graph node old.from (old.first + bit)
    takes =
        let here = stands.rest bit has in
        record { step = here.1; after = here.2; least = least }

    -- and the others are left
    pub passes : StandsAt graph node (record { from = old.first + bit + 1; part = old.part; first = old.first; rest = rest })
    passes = record {
      within = stands.within;
      count = stands.count;
      few = stands.few;
      part = stands.part;
      first = stands.first;
      low = stands.low;
      near = λ _. let below = (stands.rest bit has).0 in omega arith;
      rest = λ other is.
          let both = (without other).0 is in
          let here = stands.rest other both.0 in (
            here.0,
            here.1,
            elim (cases_lt other bit) [
              | inl less ↦ absurd (let z = lowest other less in let one = both.0 in omega arith)
              | inr more ↦ (let away = both.1 in omega arith)
            ],
          );
      left = λ next after leads. elim (stands.left next (let far = after in let first = (stands.rest bit has).2 in omega arith) leads) [
        | inl (other, is, at) ↦ inl (other, (without other).1 (is, (λ same. absurd (omega arith))), at)
        | inr far ↦ inr far
      ];
    }

-- the bits of a word from one on
pub masked : (word from : ℕ) → word < 2 ^ 64 → from < 64 → IsMasked word from (word / 2 ^ from * 2 ^ from % 2 ^ 64)
masked word from fits low bit = subst (λ (x : ℕ). (bit_at x bit ≡ 1) ↔ ((bit_at word bit ≡ 1) × (from ≤ bit))) (sym is) (elim (cases_lt bit from) [
  | inl less ↦ (
    λ has. absurd (let e = bit_at_cat_low (word / 2 ^ from) from 0 bit less in let z = bit_at-zero bit in omega arith),
    λ both. absurd (let le = both.1 in omega arith),
  )
  | inr more ↦ (
      let e = bit_at_cat_high (word / 2 ^ from) from 0 bit (pow_pos from) more ∙ bit_ahead word from bit more in
      (λ has. (sym e ∙ has, more), λ both. e ∙ both.0))
])
  where
    is : word / 2 ^ from * 2 ^ from % 2 ^ 64 ≡ word / 2 ^ from * 2 ^ from + 0
    is = mod-eq_of_lt (let le = div-mul-le_self word (2 ^ from) in omega arith) ∙ (let e : word / 2 ^ from * 2 ^ from ≡ word / 2 ^ from * 2 ^ from + 0 = omega arith in e)

-- whether the next one from a node on is this one
pub next_is : (graph : GraphOf) (node other next : ℕ) → IsNext graph node other next → IsTrue (nat_eq next other) ↔ LeadsTo graph node other
next_is graph node other next is = (
  λ same. subst (λ (n : ℕ). LeadsTo graph node n) (eqb-true next other same) is.step,
  λ leads. eq-eqb next other (
      let low = is.least other (omega arith) leads in
      let high = is.after in
      omega arith),
)
