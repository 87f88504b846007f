-- Tables filled from given ones.
use Rattle.std.proofs.Common.{◌≡◌, ◌≢◌, ◌∙◌, sym, ℕ, ◌≤◌, ◌==◌, ◌&&◌, Bool, true, false, cond, ltb, Option, Some, None, arith, ap, refl, inl, inr, ◌⊎◌}
use mathlib.Core.Path.{fun_ext}
use Rattle.std.specs.Bool.{OnTrue, OnFalse}
use Rattle.std.proofs.lemmas.Bool.{cases_eq}
use Rattle.std.proofs.lemmas.Bool.Decides.{nat_tests}
use Rattle.fabric_tables.specs.Cells.{CellsOf, HasOther, IsPut, TablesOf, tables_of}
use Rattle.fabric_repair.specs.Repaired.{AllKept, AreFilledFrom}

-- one filling after another
pub filled_on : (given old mid new : TablesOf) → AreFilledFrom given old mid → AreFilledFrom given mid new → AreFilledFrom given old new
filled_on given old mid new first then switch lid = elim (then switch lid) [
  | inl same ↦ elim (first switch lid) [
    | inl is ↦ inl (same ∙ is)
    | inr is ↦ inr (same ∙ is)
  ]
  | inr is ↦ inr is
]

-- no switch past the last has a port
pub past_switches : (cells : CellsOf) (switch lid : ℕ) → cells.switches ≤ switch → tables_of cells switch lid ≡ None
past_switches cells switch lid past = let t : ltb switch cells.switches ≡ false = grind (arith, nat_tests) in rw t refl

-- what is filled from given tables, and was empty, is as the given ones wherever it has all their ports
pub filled_same : (given old new : TablesOf) (switch lid : ℕ) → old switch lid ≡ None → AreFilledFrom given old new → (new switch lid ≡ None → given switch lid ≡ None) → new switch lid ≡ given switch lid
filled_same given old new switch lid none filled kept = elim (filled switch lid) [
  | inl same ↦ (same ∙ none) ∙ sym (kept (same ∙ none))
  | inr is ↦ is
]

pub all_same : (given old new : TablesOf) → ((switch lid : ℕ) → old switch lid ≡ None) → AreFilledFrom given old new → AllKept given new → new ≡ given
all_same given old new none filled kept = fun_ext (λ switch. fun_ext (λ lid. filled_same given old new switch lid (none switch lid) filled (kept switch lid)))

-- a port that is put
at_cell : (s l switch lid : ℕ) → ((s ≡ switch) × (l ≡ lid)) ⊎ ((s == switch && l == lid) ≡ false)
at_cell s l switch lid = elim (cases_eq s switch) [
  | inl same ↦ elim (cases_eq l lid) [
    | inl here ↦ inl (same, here)
    | inr other ↦ inr (grind (arith, nat_tests))
  ]
  | inr other ↦ inr (grind (arith, nat_tests))
]

own_cell : (s l : ℕ) → (s == s && l == l) ≡ true
own_cell s l = grind (arith, nat_tests)

module _ (old new : CellsOf) (switch lid port : ℕ) where
  put_here : IsPut (tables_of old) (tables_of new) switch lid port → tables_of new switch lid ≡ Some port
  put_here put = put switch lid ∙ ap (λ (b : Bool). cond b (Some port) (tables_of old switch lid)) (own_cell switch lid)

  put_else : (s l : ℕ) → IsPut (tables_of old) (tables_of new) switch lid port → (s == switch && l == lid) ≡ false → tables_of new s l ≡ tables_of old s l
  put_else s l put other = put s l ∙ ap (λ (b : Bool). cond b (Some port) (tables_of old s l)) other

  cell_of : (tables : TablesOf) (s l : ℕ) (found : Option ℕ) → s ≡ switch → l ≡ lid → tables switch lid ≡ found → tables s l ≡ found
  cell_of tables s l found same here is = rw (same, here) is

  pub put_kept : (r : Bool) → OnTrue r (IsPut (tables_of old) (tables_of new) switch lid port) → OnFalse r (new ≡ old) → AllKept (tables_of old) (tables_of new)
  put_kept true put kept s l none = elim (at_cell s l switch lid) [
    | inl here ↦ (let some = cell_of (tables_of new) s l (Some port) here.0 here.1 (put_here put) in let e : Some port ≡ None = sym some ∙ none in absurd (cc))
    | inr other ↦ sym (put_else s l put other) ∙ none
  ]
  put_kept false put kept s l none = ap (λ (cells : CellsOf). tables_of cells s l) (sym kept) ∙ none

  pub put_some : (r : Bool) → OnTrue r (IsPut (tables_of old) (tables_of new) switch lid port) → OnFalse r (HasOther (tables_of old) switch lid port) → OnFalse r (new ≡ old) → tables_of new switch lid ≢ None
  put_some true put other kept none = let e : Some port ≡ None = sym (put_here put) ∙ none in absurd (cc)
  put_some false put other kept none =
      let had : tables_of old switch lid ≡ None = ap (λ (cells : CellsOf). tables_of cells switch lid) (sym kept) ∙ none in
      let e : Some other.0 ≡ None = sym other.1 ∙ had in
      absurd (cc)

  pub put_filled : (r : Bool) → OnTrue r (IsPut (tables_of old) (tables_of new) switch lid port) → OnFalse r (new ≡ old) → (given : TablesOf) → given switch lid ≡ Some port → AreFilledFrom given (tables_of old) (tables_of new)
  put_filled true put kept given has s l = elim (at_cell s l switch lid) [
    | inl here ↦ inr (cell_of (tables_of new) s l (Some port) here.0 here.1 (put_here put) ∙ sym (cell_of given s l (Some port) here.0 here.1 has))
    | inr other ↦ inl (put_else s l put other)
  ]
  put_filled false put kept given has s l = inl (ap (λ (cells : CellsOf). tables_of cells s l) kept)
