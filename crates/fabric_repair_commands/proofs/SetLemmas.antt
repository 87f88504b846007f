-- Tables in which the rows are set that are told.
use Rattle.std.proofs.Common.{◌≡◌, ◌∙◌, sym, ap, subst, refl, ℕ, ◌<◌, Bool, true, false, cond, ◌==◌, ◌&&◌, eqb, List, [], ◌∷◌, Option, Some, None, All, Contains, arith, length, inl, inr, ◌⊎◌}
use mathlib.Core.Path.{fun_ext}
use Rattle.std.specs.List.{range_with_len}
use Rattle.std.proofs.lemmas.Bool.{and_from, and_parts, both_ways, cases_Bool, cases_lt, cond-false, cond-true, cond_both, eq-eqb, eqb-true, not-false}
use Rattle.std.proofs.lemmas.List.{get_or_past}
use Rattle.std.proofs.lemmas.List.Elements.{All-cons, All-head, All-nil, All-tail}
use Rattle.common_values.proofs.FlatMapLemmas.{All-flat_map, Contains-flat_map}
use Rattle.common_values.proofs.ListLemmas.{All-from_members}
use Rattle.common_values.proofs.MemberLemmas.{Contains-cons_cases, Contains-here}
use Rattle.common_values.proofs.RangeLemmas.{in_range, within_range}
use Rattle.fabric_model.specs.declared.node.EndPort.TheVariants as kind
use Rattle.fabric_model.specs.Fabric.{FabricOf, IsFabric, guid_of, switch_count, switch_with}
use Rattle.fabric_tables.specs.Cells.{CellsOf, TablesOf, tables_of}
use Rattle.fabric_repair.specs.Repaired.{AreRepairedOf, HasKept}
use Rattle.fabric_repair_commands.specs.declared.rows.SetRow.{SetRow}
use Rattle.fabric_repair_commands.specs.Repairs.{differs, row_at, row_of, rows_for, rows_set}
use Rattle.fabric_repair_commands.specs.SetRows.{with_port_of, with_row, with_rows}
use Rattle.fabric_print_tables.proofs.KnownLemmas.{no_switch, switch_known}

-- rows one after another: a cell has a port if all rows of the cell say so, and there is one, or it had that port before
module _ (fabric : FabricOf) (switch lid : ℕ) (port : Option ℕ) where
  -- a row of a switch is one of the cell
  abbrev is_of : ℕ → SetRow → Bool
  is_of at row = switch == at && lid == row.lid

  record Says (row : SetRow) : Type 0 where
    pub at : ℕ
    pub known : switch_with fabric row.guid ≡ Some at
    pub says : is_of at row ≡ true → Some row.port ≡ port

  record IsOwn (row : SetRow) : Type 0 where
    pub at : ℕ
    pub known : switch_with fabric row.guid ≡ Some at
    pub own : is_of at row ≡ true

  abbrev IsSet : List SetRow → Type 0
  IsSet rows = (row : SetRow) × Contains rows row × IsOwn row

  one_switch : (row : SetRow) (at other : ℕ) → switch_with fabric row.guid ≡ Some at → switch_with fabric row.guid ≡ Some other → at ≡ other
  one_switch row at other known too = let same : Some at ≡ Some other = sym known ∙ too in cc

  at_row : (row : SetRow) (tables : TablesOf) (at : ℕ) → switch_with fabric row.guid ≡ Some at → with_row fabric tables row switch lid ≡ cond (is_of at row) (Some row.port) (tables switch lid)
  at_row row tables at known = ap (λ (s : Option ℕ). with_port_of tables s row.lid row.port switch lid) known

  set_cell : (rows : List SetRow) (tables : TablesOf) → All Says rows → (tables switch lid ≡ port) ⊎ IsSet rows → with_rows fabric tables rows switch lid ≡ port
  set_cell [] tables says (inl is) = is
  set_cell [] tables says (inr set) = absurd (let low = set.1.1 in omega arith)
  set_cell (row ∷ rows) tables says either =
      let here = All-head Says row rows says in
      let step = at_row row tables here.at here.known in
      set_cell rows (with_row fabric tables row) (All-tail Says row rows says) (elim (cases_Bool (is_of here.at row)) [
        | inl own ↦ inl (step ∙ cond-true (is_of here.at row) (Some row.port) (tables switch lid) own ∙ here.says own)
        | inr not_own ↦ elim either [
          | inl is ↦ inl (step ∙ cond-false (is_of here.at row) (Some row.port) (tables switch lid) not_own ∙ is)
          | inr (set, has, own) ↦ elim (Contains-cons_cases row set rows has) [
            | inl same ↦ absurd (let mine = subst IsOwn (sym same) own in both_ways (is_of here.at row) not_own (ap (λ (at : ℕ). is_of at row) (one_switch row here.at mine.at here.known mine.known) ∙ mine.own))
            | inr later ↦ inr (set, later, own)
          ]
        ]
      ])

module _ (fabric : FabricOf) (fits : IsFabric fabric) (given made : TablesOf) (switch lid : ℕ) where
  abbrev row : (at to port : ℕ) (had : Option ℕ) → SetRow
  row at to port had = record { guid = guid_of fabric (kind.Switch at); lid = to; port = port; had = had }

  abbrev SaysMade : SetRow → Type 0
  SaysMade = Says fabric switch lid (made switch lid)

  row_says : (at to port : ℕ) (had : Option ℕ) → at < switch_count fabric → made at to ≡ Some port → SaysMade (row at to port had)
  row_says at to port had under is = record {
    at = at;
    known = switch_known fabric at fits under;
    says = λ own.
        let both = and_parts (eqb switch at) (eqb lid to) own in
        sym is ∙ ap (λ (s : ℕ). made s to) (sym (eqb-true switch at both.0)) ∙ ap (made switch) (sym (eqb-true lid to both.1));
  }

  cell_says : (at to : ℕ) (had found : Option ℕ) → at < switch_count fabric → made at to ≡ found → All SaysMade (row_of (guid_of fabric (kind.Switch at)) to had found)
  cell_says at to had None under is = All-nil SaysMade
  cell_says at to had (Some port) under is =
      let one = row at to port had in
      cond_both (differs had port) (one ∷ []) [] (All SaysMade) (λ set. All-cons SaysMade one [] (row_says at to port had under is) (All-nil SaysMade)) (λ kept. All-nil SaysMade)

  all_say : All SaysMade (rows_set fabric given made)
  all_say =
      let switches = range_with_len 0 (switch_count fabric) in
      let lids = range_with_len 0 (length fabric.owners) in
      All-flat_map SaysMade (rows_for fabric given made) switches (All-from_members (λ (at : ℕ). All SaysMade (rows_for fabric given made at)) switches (λ at has.
      let under = (within_range (switch_count fabric) 0 at has).1 in
      All-flat_map SaysMade (row_at fabric given made at) lids (All-from_members (λ (to : ℕ). All SaysMade (row_at fabric given made at to)) lids (λ to _. cell_says at to (given at to) (made at to) (omega arith) refl))))

  -- the cell has a row, or is as it is to be
  abbrev Has : List SetRow → Type 0
  Has rows = (given switch lid ≡ made switch lid) ⊎ IsSet fabric switch lid (made switch lid) rows

  same_port : (had : Option ℕ) (port : ℕ) → differs had port ≡ false → had ≡ Some port
  same_port None port same = absurd (cc)
  same_port (Some other) port same = ap (λ (n : ℕ). let o : Option ℕ = Some n in o) (eqb-true other port (not-false (eqb other port) same))

  cell_set : switch < switch_count fabric → (found : Option ℕ) → made switch lid ≡ found → HasKept given made switch lid → Has (row_of (guid_of fabric (kind.Switch switch)) lid (given switch lid) found)
  cell_set low None is kept = inl (kept is ∙ sym is)
  cell_set low (Some port) is kept =
      let had = given switch lid in
      let one = row switch lid port had in
      cond_both (differs had port) (one ∷ []) [] Has
      (λ set. inr (one, Contains-here one [], record { at = switch; known = switch_known fabric switch fits low; own = and_from (eqb switch switch) (eqb lid lid) (eq-eqb switch switch refl) (eq-eqb lid lid refl) }))
      (λ same. inl (same_port had port same ∙ sym is))

  all_set : switch < switch_count fabric → lid < length fabric.owners → HasKept given made switch lid → Has (rows_set fabric given made)
  all_set low within kept = elim (cell_set low (made switch lid) refl kept) [
    | inl same ↦ inl same
    | inr (set, has, own) ↦ inr (
      set,
      Contains-flat_map (rows_for fabric given made) (range_with_len 0 (switch_count fabric)) switch set (in_range (switch_count fabric) 0 switch (omega arith) (omega arith))
          (Contains-flat_map (row_at fabric given made switch) (range_with_len 0 (length fabric.owners)) lid set (in_range (length fabric.owners) 0 lid (omega arith) (omega arith)) has),
      own,
    )
  ]

  set_there : Has (rows_set fabric given made) → with_rows fabric given (rows_set fabric given made) switch lid ≡ made switch lid
  set_there has = set_cell fabric switch lid (made switch lid) (rows_set fabric given made) given all_say has

-- given tables in which these rows are set are those that were made
pub set_made : (fabric : FabricOf) → IsFabric fabric → (given made : CellsOf) → given.switches ≡ switch_count fabric → AreRepairedOf fabric given made → with_rows fabric (tables_of given) (rows_set fabric (tables_of given) (tables_of made)) ≡ tables_of made
set_made fabric fits given made count shape = fun_ext (λ switch. fun_ext (λ lid. set_there fabric fits (tables_of given) (tables_of made) switch lid (elim (cases_lt switch (switch_count fabric)) [
  | inl low ↦ elim (cases_lt lid (length fabric.owners)) [
    | inl within ↦ all_set fabric fits (tables_of given) (tables_of made) switch lid low within (shape.kept switch lid)
    | inr past ↦ inl (sym (shape.unowned switch lid (get_or_past fabric.owners lid None past)))
  ]
  | inr over ↦ inl (no_switch given switch lid (let c = count in omega arith) ∙ sym (no_switch made switch lid (let c = shape.switches in omega arith)))
])))
