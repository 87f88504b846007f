-- Counts of cells, one switch after another, and of each one LID after another.
use Rattle.std.proofs.Common.{◌≡◌, subst, refl, ℕ, ◌+◌, ◌≤◌, ◌⊎◌, inl, inr, arith}
use Rattle.std.proofs.lemmas.Bool.{cases_eq, cases_lt}
use Rattle.fabric_routes.proofs.CountLemmas.{count_more, count_none, count_same}
use Rattle.fabric_print_tables.specs.Texts.{Cell}
use Rattle.fabric_print_tables.specs.Printed.{IsBefore, IsCountBefore}
use Rattle.fabric_routes.specs.Counting.{IsCountOf}

abbrev cell : ℕ → ℕ → Cell
cell switch lid = record { switch = switch; lid = lid }

one_cell : (s l switch lid : ℕ) → s ≡ switch → l ≡ lid → cell s l ≡ cell switch lid
one_cell s l switch lid same here = rw (same, here) refl

-- a cell before the next one is before this one, or this one
pub before_or : (switch lid s l : ℕ) → IsBefore switch (lid + 1) s l → IsBefore switch lid s l ⊎ ((s ≡ switch) × (l ≡ lid))
before_or switch lid s l (inl less) = inl (inl less)
before_or switch lid s l (inr at) = elim (cases_eq l lid) [
  | inl here ↦ inr (at.0, here)
  | inr other ↦ inl (inr (at.0, (let low = at.1 in omega arith)))
]

pub before_next : (switch lid s l : ℕ) → IsBefore switch lid s l → IsBefore switch (lid + 1) s l
before_next switch lid s l (inl less) = inl less
before_next switch lid s l (inr at) = inr (at.0, (let low = at.1 in omega arith))

pub not_itself : (switch lid : ℕ) → IsBefore switch lid switch lid → ⊥
not_itself switch lid (inl less) = absurd (omega arith)
not_itself switch lid (inr at) = absurd (let low = at.1 in omega arith)

pub none_before : (s l : ℕ) → IsBefore 0 0 s l → ⊥
none_before s l (inl less) = absurd (omega arith)
none_before s l (inr at) = absurd (let low = at.1 in omega arith)

pub before_switch : (switch lids s l : ℕ) → IsBefore switch lids s l → IsBefore (switch + 1) 0 s l
before_switch switch lids s l (inl less) = inl (omega arith)
before_switch switch lids s l (inr at) = inl (let same = at.0 in omega arith)

-- one before the next switch is before a LID of this one, or is one of this switch and a later LID
pub before_last : (switch lids s l : ℕ) → IsBefore (switch + 1) 0 s l → IsBefore switch lids s l ⊎ ((s ≡ switch) × (lids ≤ l))
before_last switch lids s l (inl less) = elim (cases_lt s switch) [
  | inl under ↦ inl (inl under)
  | inr same ↦ elim (cases_lt l lids) [
    | inl low ↦ inl (inr (omega arith, low))
    | inr past ↦ inr (omega arith, past)
  ]
]
before_last switch lids s l (inr at) = absurd (let low = at.1 in omega arith)

module _ (Is : Cell → Type 0) where
  pub count_start : IsCountBefore Is 0 0 0
  count_start = count_none Cell _ (λ x is. none_before x.switch x.lid is.0)

  pub count_skip : (switch lid n : ℕ) → (Is (cell switch lid) → ⊥) → IsCountBefore Is switch lid n → IsCountBefore Is switch (lid + 1) n
  count_skip switch lid n not is = count_same Cell _ _ n (λ x had. (before_next switch lid x.switch x.lid had.0, had.1)) (λ x has. elim (before_or switch lid x.switch x.lid has.0) [
    | inl before ↦ (before, has.1)
    | inr here ↦ absurd (not (subst Is (one_cell x.switch x.lid switch lid here.0 here.1) has.1))
  ]) is

  pub count_add : (switch lid n : ℕ) → Is (cell switch lid) → IsCountBefore Is switch lid n → IsCountBefore Is switch (lid + 1) (n + 1)
  count_add switch lid n new is = count_more Cell _ _ (cell switch lid) n
      (λ x had. (before_next switch lid x.switch x.lid had.0, had.1))
      (λ x has. elim (before_or switch lid x.switch x.lid has.0) [
        | inl before ↦ inl (before, has.1)
        | inr here ↦ inr (one_cell x.switch x.lid switch lid here.0 here.1)
      ])
      (inr (refl, omega arith), new)
      (λ had. not_itself switch lid had.0)
      is

  pub count_end : (switch lids n : ℕ) → ((l : ℕ) → lids ≤ l → Is (cell switch l) → ⊥) → IsCountBefore Is switch lids n → IsCountBefore Is (switch + 1) 0 n
  count_end switch lids n none is = count_same Cell _ _ n (λ x had. (before_switch switch lids x.switch x.lid had.0, had.1)) (λ x has. elim (before_last switch lids x.switch x.lid has.0) [
    | inl before ↦ (before, has.1)
    | inr past ↦ absurd (none x.lid past.1 (subst Is (one_cell x.switch x.lid switch x.lid past.0 refl) has.1))
  ]) is

  pub count_all : (switches n : ℕ) → ((s l : ℕ) → switches ≤ s → Is (cell s l) → ⊥) → IsCountBefore Is switches 0 n → IsCountOf Is n
  count_all switches n none is = count_same Cell _ _ n (λ x had. had.1) (λ x has. elim (cases_lt x.switch switches) [
    | inl low ↦ (inl low, has)
    | inr past ↦ absurd (none x.switch x.lid past has)
  ]) is
