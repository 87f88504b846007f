-- What a table has at an entry for a number, and what it has not.
use Rattle.std.proofs.Common.{◌≡◌, ◌≢◌, ◌∙◌, sym, subst, refl, ℕ, suc, ◌<◌, List, [], ◌∷◌, Option, Some, None, Bool, true, arith, length, get_or, ◌==◌, Equal, inl, inr}
use Rattle.std.specs.Prelude.{find, slice_index, Any}
use Rattle.std.specs.Ordering.{nat_cmp, ordering_then}
use Rattle.std.proofs.lemmas.Bool.{cases_Bool, and_parts, eqb-true}
use Rattle.std.proofs.lemmas.Bool.Decides.{nat_tests}
use Rattle.std.proofs.lemmas.List.{get_or_default}
use Rattle.an_base.specs.Values.{EntryOf}
use Rattle.an_base.specs.Rows.{RowOf}
use Rattle.an_base.specs.Numbers.{AreNumbers}
use Rattle.table_build.specs.Exits.{AreExits, IsEntry, may_go_up}
use Rattle.table_build.specs.Tables.{TableOf, IsRow, IsTable, exits_of}
use Rattle.table_build.proofs.TableLemmas.{one_number}
use Rattle.table_build.proofs.SearchLemmas.{is_sought, row_found}

both_equal : (a b c d : ℕ) → a ≡ b → c ≡ d → ordering_then (nat_cmp a b) (nat_cmp c d) ≡ Equal
both_equal a b c d e f = grind (arith, nat_tests)

-- the exits of a table are those of its definition
pub table_exits : (es : List EntryOf) (numbers : List ℕ) (any : Bool) (x entry y : ℕ) (t : TableOf) → AreNumbers numbers → length numbers ≡ length es → IsTable es numbers any x t → IsEntry es x entry → y < length es → y ≢ x → AreExits es any (may_go_up es x entry) x y (exits_of t entry (slice_index numbers y))
table_exits es numbers any x entry y t are count table is low other =
    let any_row = table.whole entry y is low other in
    let k = any_row.0 in
    let r : RowOf = any_row.1 in
    let at : get_or t.rows k r ≡ r = any_row.3 in
    let entry_is : r.entry ≡ entry = any_row.4.0 in
    let to_is : r.to ≡ slice_index numbers y = any_row.4.1 in
    let found = row_found t entry (slice_index numbers y) k r table.rising any_row.2
    (λ d. let same = get_or_default t.rows k d r any_row.2 ∙ at in rw same (both_equal r.entry entry r.to (slice_index numbers y) entry_is to_is))
    (sym at) in
    let row : IsRow es numbers any x r = subst (λ (q : RowOf). IsRow es numbers any x q) at (table.each k r any_row.2) in
    let to_y : row.to ≡ y = one_number numbers row.to y are (let l = row.to_low in omega arith) (omega arith) (sym row.number ∙ to_is) in
    rw (← found) (subst (λ (z : ℕ). AreExits es any (may_go_up es x entry) x z r.exits) to_y (subst (λ (e : ℕ). AreExits es any (may_go_up es x e) x row.to r.exits) entry_is row.exits))

-- what is found passes the test
found_passes : (p : RowOf → Bool) (rows : List RowOf) (r : RowOf) → find p rows ≡ Some r → Any (λ q. p q ≡ true) rows
found_passes p [] r e = absurd (cc)
found_passes p (q ∷ rows) r e = elim (cases_Bool (p q)) [
  | inl passes ↦ (0, q, omega arith, refl, passes)
  | inr fails ↦ (
      let later : find p (q ∷ rows) ≡ find p rows = rw fails refl in
      let rest = found_passes p rows r (sym later ∙ e) in
      (suc rest.0, rest.1, let l = rest.2 in omega arith, rest.3, rest.4))
]

-- a table has no exits where it has no row
pub no_row : (es : List EntryOf) (numbers : List ℕ) (any : Bool) (x entry n : ℕ) (t : TableOf) → IsTable es numbers any x t → ((r : RowOf) → IsRow es numbers any x r → r.entry ≡ entry → r.to ≡ n → ⊥) → exits_of t entry n ≡ []
no_row es numbers any x entry n t table none = go (find (is_sought entry n) t.rows) refl
  where
    go : (o : Option RowOf) → find (is_sought entry n) t.rows ≡ o → exits_of t entry n ≡ []
    go None e = rw e refl
    go (Some r) e =
        let f = found_passes (is_sought entry n) t.rows r e in
        let row : IsRow es numbers any x f.1 = subst (λ (q : RowOf). IsRow es numbers any x q) f.3 (table.each f.0 f.1 f.2) in
        let parts = and_parts (f.1.entry == entry) (f.1.to == n) f.4 in
        absurd (none f.1 row (eqb-true f.1.entry entry parts.0) (eqb-true f.1.to n parts.1))
