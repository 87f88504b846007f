use Rattle.std.proofs.Common.{◌≡◌, sym, ap, subst, ℕ, ◌<◌, List, [], arith, length, get_or, Bool}
use Rattle.std.specs.List.{flat_map}
use Rattle.std.proofs.lemmas.List.{get_or_default}
use Rattle.an_base.specs.Values.{EntryOf}
use Rattle.an_base.specs.Rows.{RowOf}
use Rattle.switch_numbering.specs.Numbering.{numbering}
use Rattle.table_build.specs.Tables.{TableOf, IsTable, IsRow}
use Rattle.dep_check.specs.Laws.{AreTables as AllTables}
use Rattle.net_script.specs.Scripts.{ScriptOf}
use Rattle.expect_text.specs.Expect.{Part, table_at, all_rows}
use Rattle.common_values.proofs.FlatMapLemmas.{All-flat_map, Any-flat_map}
use Rattle.expect_text.proofs.PartLemmas.{IsPart}

-- the rows of the tables of all members, in one list
pub all_tables : (es : List EntryOf) (numbers : List ℕ) (any : Bool) (ts : List TableOf) → length ts ≡ length es → ((x : ℕ) → x < length es → IsTable es numbers any x (table_at ts x)) → AllTables es numbers any (flat_map (λ t. t.rows) ts)
all_tables es numbers any ts count each = record {
  each = All-flat_map (λ (r : RowOf). (x : ℕ) × (x < length es) × IsRow es numbers any x r) (λ t. t.rows) ts (λ x d low k r high.
      let here : x < length es = omega arith in
      let same : get_or ts x d ≡ table_at ts x = get_or_default ts x d (record { number = 0; rows = [] }) low in
      (x, here, subst (λ (t : TableOf). IsRow es numbers any x (get_or t.rows k r)) (sym same) ((each x here).each k r (let n = ap (λ (t : TableOf). length t.rows) same in omega arith))));
  whole = λ x entry y low is high other.
      let table = each x low in
      let nothing : TableOf = record { number = 0; rows = [] } in
      let (k, r, below, found, is_for) = table.whole entry y is high other in
      let row : IsRow es numbers any x r = subst (IsRow es numbers any x) found (table.each k r below) in
      Any-flat_map (λ (q : RowOf). (q.at ≡ get_or numbers x 0) × (q.entry ≡ entry) × (q.to ≡ get_or numbers y 0)) (λ t. t.rows) ts
      (x, table_at ts x, omega arith, get_or_default ts x (table_at ts x) nothing (omega arith), (k, r, below, found, (row.at, is_for.0, is_for.1)));
}

-- and so of a part of what is expected of a script
pub part_rows : (s : ScriptOf) (p : Part) → IsPart s p → AllTables p.entries (numbering p.entries) s.any_routes (all_rows p)
part_rows s p part = all_tables p.entries (numbering p.entries) s.any_routes p.tables part.tables.count part.tables.each
