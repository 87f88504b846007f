use Rattle.std.proofs.Common.{◌≡◌, ◌++◌, map}
use Rattle.std.specs.Prelude.{filter}
use Rattle.std.specs.List.{range_with_len}
use Rattle.row_text.specs.Rows.{row_form}
use Rattle.report.specs.Events.{has_line}
use Rattle.row_text.specs.TableForms.{table_text}
use Rattle.report.proofs.telling.Telling.push_table.Given as goal

-- the entries so far
abbrev pub invariant-entries : goal.invariant-entries
invariant-entries l = l.text.items ≡ l.fn.text.items ++ table_text (map (row_form l.self.script.now l.life l.rows) (filter (has_line l.rows) (range_with_len 0 l.entry)))
