use Rattle.std.proofs.Common.{◌≡◌, ◌++◌, map}
use Rattle.std.specs.Prelude.{filter}
use Rattle.std.specs.List.{range_with_len}
use Rattle.topo_graph.specs.Topology.{life_at}
use Rattle.table_build.specs.Exits.{is_entry}
use Rattle.row_text.specs.Rows.{row_form}
use Rattle.row_text.specs.TableForms.{table_text}
use Rattle.row_text.proofs.row.push_row_lines.Given as goal

-- the entries so far
abbrev pub invariant-entries : goal.invariant-entries
invariant-entries l = l.text.items ≡ l.fn.text.items ++ table_text (map (row_form l.lives.script.now (life_at l.graph l.x) l.rows) (filter (is_entry l.graph l.x) (range_with_len 0 l.entry)))
