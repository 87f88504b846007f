use Rattle.std.proofs.Common.{◌≡◌, ◌++◌, List}
use Rattle.table_build.specs.Tables.{TableOf}
use Rattle.expect_text.specs.Expect.{AreTables}
use Rattle.row_text.specs.TableForms.{table_text}
use Rattle.row_text.specs.Rows.{table_forms}
use Rattle.expect_text.proofs.expect.push_shared.Given as goal

-- the tables so far
abbrev pub invariant-members : goal.invariant-members
invariant-members l = (ts : List TableOf) × AreTables l.graph l.any l.x ts × (l.text.items ≡ l.fn.text.items ++ table_text (table_forms l.lives.script.now l.graph 0 ts))
