-- The tables of the exits by their targets.
use Rattle.std.proofs.Common.{◌≡◌, ◌≢◌, ◌∙◌, sym, ap, subst, ℕ, ◌+◌, ◌<◌, ◌≤◌, List, [], ◌∷◌, ◌++◌, Some, None, arith, length, length-set, set, get_or, get_or-set_same, get_or-set_other, inl, inr}
use Rattle.std.specs.Prelude.{map, Vec}
use Rattle.std.specs.declared.alloc.Global.{Global}
use Rattle.std.proofs.lemmas.Bool.{cases_eq}
use Rattle.std.proofs.lemmas.List.{get_or-map, get_or_append_left, get_or_push, length-map, map-append, map-set}
use Rattle.an_base.specs.Numbers.{AreNumbers}
use Rattle.an_base.specs.Rows.{RowOf}
use Rattle.dep_check.specs.declared.targets.ByTarget.{ByTarget}
use Rattle.dep_check.specs.Channels.{place_in}
use Rattle.dep_check.specs.Tables.{row_at, AreExitsBelow}
use Rattle.dep_check.specs.Targets.{IsTableBelow, table_of, AreTablesBelow, AreByTarget, AreFor}
use Rattle.dep_check.proofs.SpotLemmas.{option_cases}
use Rattle.dep_check.proofs.BridgeLemmas.{place_contained, contained_place}
use Rattle.dep_check.proofs.ExitLemmas.{exits_same}

-- the contents of a table
abbrev pub contents : Vec ℕ Global → List ℕ
contents table = table.items

-- the table that is read
pub table_read : (tables : List (Vec ℕ Global)) (number : ℕ) (table : Vec ℕ Global) → number < length tables → table ≡ get_or tables number table → table.items ≡ table_of tables number
table_read tables number table low is = ap contents is ∙ sym (get_or-map contents tables number table [] low)

-- a number that is none of the topology has an empty table, and one that is has one without exits
pub first_none : (rows : List RowOf) (numbers : List ℕ) (number : ℕ) (table : List ℕ) → AreNumbers numbers → place_in numbers number ≡ None → length table ≡ 0 → IsTableBelow rows numbers 0 number table
first_none rows numbers number table are none empty = record {
  exits = λ has. absurd (let place = contained_place numbers number are has in let gone : None ≡ Some place.0 = sym none ∙ place.1 in cc);
  none = λ out. empty;
}

pub first_some : (rows : List RowOf) (numbers : List ℕ) (number place : ℕ) (table : List ℕ) → place_in numbers number ≡ Some place → AreExitsBelow rows (Some number) 0 table → IsTableBelow rows numbers 0 number table
first_some rows numbers number place table is exits = record {
  exits = λ has. exits;
  none = λ out. absurd (out (place_contained numbers number place is).0);
}

-- one table more
pub tables_more : (rows : List RowOf) (numbers : List ℕ) (end : ℕ) (tables : List (Vec ℕ Global)) (table : Vec ℕ Global) → length tables ≡ end → ((number : ℕ) → number < end → IsTableBelow rows numbers 0 number (table_of tables number)) → IsTableBelow rows numbers 0 end table.items → (number : ℕ) → number < end + 1 → IsTableBelow rows numbers 0 number (table_of (tables ++ table ∷ []) number)
tables_more rows numbers end tables table count so_far new number low =
    let count_of : length (map contents tables) ≡ end = length-map tables contents ∙ count in
    let split : table_of (tables ++ table ∷ []) number ≡ get_or (map contents tables ++ table.items ∷ []) number [] = ap (λ (xs : List (List ℕ)). get_or xs number []) (map-append contents tables (table ∷ [])) in
    elim (cases_eq number end) [
      | inl last ↦ (
          let got = split ∙ get_or_push (map contents tables) table.items [] number (count_of ∙ sym last) in
          subst (λ (t : List ℕ). IsTableBelow rows numbers 0 number t) (sym got) (subst (λ (n : ℕ). IsTableBelow rows numbers 0 n table.items) (sym last) new))
      | inr before ↦ (
          let kept = split ∙ get_or_append_left (map contents tables) (table.items ∷ []) [] number (omega arith) in
          subst (λ (t : List ℕ). IsTableBelow rows numbers 0 number t) (sym kept) (so_far number (omega arith)))
    ]

-- a row with another target adds nothing to a table
pub table_other : (rows : List RowOf) (numbers : List ℕ) (k number : ℕ) (table : List ℕ) → ((row_at rows k).to ≡ number → ⊥) → IsTableBelow rows numbers k number table → IsTableBelow rows numbers (k + 1) number table
table_other rows numbers k number table other so_far = record {
  exits = λ has. exits_same rows (Some number) k table (λ s p spot here. other here.counts) (so_far.exits has);
  none = so_far.none;
}

-- nor does one towards what is no number of the topology
pub table_out : (rows : List RowOf) (numbers : List ℕ) (k number : ℕ) (table : List ℕ) → length table ≢ 1651 → IsTableBelow rows numbers k number table → IsTableBelow rows numbers (k + 1) number table
table_out rows numbers k number table odd so_far = record {
  exits = λ has. absurd (odd (so_far.exits has).count);
  none = so_far.none;
}

-- a row whose target is above all numbers
pub tables_above : (rows : List RowOf) (numbers : List ℕ) (k : ℕ) (tables : List (Vec ℕ Global)) → 127 ≤ (row_at rows k).to → AreTablesBelow rows numbers k tables → AreTablesBelow rows numbers (k + 1) tables
tables_above rows numbers k tables high so_far = record {
  count = so_far.count;
  each = λ number low. table_other rows numbers k number (table_of tables number) (λ same. absurd (omega arith)) (so_far.each number low);
}

-- a row whose target has no table
pub tables_out : (rows : List RowOf) (numbers : List ℕ) (k to : ℕ) (tables : List (Vec ℕ Global)) → (row_at rows k).to ≡ to → length (table_of tables to) ≢ 1651 → AreTablesBelow rows numbers k tables → AreTablesBelow rows numbers (k + 1) tables
tables_out rows numbers k to tables is odd so_far = record {
  count = so_far.count;
  each = λ number low. elim (cases_eq number to) [
    | inl same ↦ table_out rows numbers k number (table_of tables number) (subst (λ (n : ℕ). length (table_of tables n) ≢ 1651) (sym same) odd) (so_far.each number low)
    | inr other ↦ table_other rows numbers k number (table_of tables number) (λ e. other (sym e ∙ is)) (so_far.each number low)
  ];
}

-- a row that is added to the table of its target
pub tables_added : (rows : List RowOf) (numbers : List ℕ) (k to : ℕ) (tables : List (Vec ℕ Global)) (new : Vec ℕ Global) → (row_at rows k).to ≡ to → to < length tables → (AreExitsBelow rows (Some to) k (table_of tables to) → AreExitsBelow rows (Some to) (k + 1) new.items) → length (table_of tables to) ≡ 1651 → AreTablesBelow rows numbers k tables → AreTablesBelow rows numbers (k + 1) (set tables to new)
tables_added rows numbers k to tables new is within added whole so_far = record {
  count = length-set tables to new ∙ so_far.count;
  each = λ number low.
      let moved : table_of (set tables to new) number ≡ get_or (set (map contents tables) to new.items) number [] = ap (λ (xs : List (List ℕ)). get_or xs number []) (map-set contents tables to new) in
      let was = so_far.each number low in
      elim (cases_eq number to) [
        | inl same ↦ (
            let got = moved ∙ rw same (get_or-set_same (map contents tables) to new.items [] (omega (arith, length-map tables contents))) in
            subst (λ (t : List ℕ). IsTableBelow rows numbers (k + 1) number t) (sym got) (record {
              exits = λ has. subst (λ (n : ℕ). AreExitsBelow rows (Some n) (k + 1) new.items) (sym same) (added (subst (λ (n : ℕ). AreExitsBelow rows (Some n) k (table_of tables n)) same (was.exits has)));
              none = λ out. absurd (let empty = was.none out in let full : length (table_of tables number) ≡ 1651 = subst (λ (n : ℕ). length (table_of tables n) ≡ 1651) (sym same) whole in omega arith);
            }))
        | inr other ↦ (
            let kept = moved ∙ get_or-set_other (map contents tables) to number new.items [] other in
            subst (λ (t : List ℕ). IsTableBelow rows numbers (k + 1) number t) (sym kept) (table_other rows numbers k number (table_of tables number) (λ e. other (sym e ∙ is)) was))
      ];
}

-- the tables are for the numbers of the topology
pub tables_for : (rows : List RowOf) (numbers : List ℕ) (by_target : ByTarget) → AreNumbers numbers → AreByTarget rows numbers by_target → AreFor numbers by_target
tables_for rows numbers by_target named are = record {
  count = are.count;
  each = λ number low. (
    λ has. elim (option_cases (place_in numbers number)) [
      | inl none ↦ absurd (has ((are.each number low).none (λ there. let place = contained_place numbers number named there in let gone : None ≡ Some place.0 = sym none ∙ place.1 in absurd (cc))))
      | inr some ↦ (place_contained numbers number some.0 some.1).0
    ],
    λ there. (λ empty. let count = ((are.each number low).exits there).count in absurd (omega arith)),
  );
}
