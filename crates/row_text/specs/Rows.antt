use Rattle.std.specs.Prelude.{◌==◌, ℕ, ◌+◌, List, [], ◌∷◌, ◌++◌, map, filter, codes}
use Rattle.std.specs.Fmt.{decimal}
use Rattle.std.specs.List.{flat_map, range_with_len}
use Rattle.an_base.specs.Values.{LifeId, EntryOf}
use Rattle.an_base.specs.Rows.{RowOf}
use Rattle.net_script.specs.Scripts.{ScriptOf}
use Rattle.row_text.specs.TableForms.{TableForm, RowLine}
use Rattle.topo_graph.specs.Topology.{life_at}
use Rattle.table_build.specs.Exits.{is_entry}
use Rattle.table_build.specs.Tables.{TableOf}
use Rattle.row_text.specs.Names.{life_text}

-- Routing tables as lines of the forms from which tables are read.

-- a port after a slash
abbrev pub slashed : ℕ → List ℕ
slashed port = codes "/" ++ decimal port

-- the exits joined by `/`, or `-` if there are none
unfoldable pub exits_text : List ℕ → List ℕ
exits_text [] = codes "-"
exits_text (port ∷ ports) = decimal port ++ flat_map slashed ports

-- a pair: the number of the target, a colon, and the exits
abbrev pub pair_word : RowOf → List ℕ
pair_word row = decimal row.to ++ (codes ":" ++ exits_text row.exits)

-- the rows in `rows` that have `entry`
abbrev pub rows_at : List RowOf → ℕ → List RowOf
rows_at rows entry = filter (λ row. row.entry == entry) rows

-- the line for `entry` of the switch of `life`: a pair for each row
abbrev pub row_form : ScriptOf → LifeId → List RowOf → ℕ → TableForm
row_form script life rows entry =
    RowLine (life_text script life) (decimal entry) (map pair_word (rows_at rows entry))

-- the lines of the table of the member at index `place`: one for each entry, 0 and the ports with a link
abbrev pub member_rows : ScriptOf → List EntryOf → ℕ → List RowOf → List TableForm
member_rows script entries place rows =
    map (row_form script (life_at entries place) rows) (filter (is_entry entries place) (range_with_len 0 13))

-- the lines of the tables of the members, from index `place` on
abbrev pub table_forms : ScriptOf → List EntryOf → ℕ → List TableOf → List TableForm
table_forms script entries place [] = []
table_forms script entries place (table ∷ tables) =
    member_rows script entries place table.rows ++ table_forms script entries (place + 1) tables
