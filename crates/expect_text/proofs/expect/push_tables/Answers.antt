use Rattle.std.proofs.Common.{◌≡◌, ◌∙◌, ◌++◌, ap, length, sym, subst, List}
use Rattle.switch_numbering.proofs.Differing.{length-numbering}
use Rattle.std.specs.Prelude.{OnOk}
use Rattle.an_base.specs.Values.{EntryOf}
use Rattle.switch_numbering.specs.Numbering.{numbering}
use Rattle.table_build.specs.Tables.{TableOf}
use Rattle.row_text.specs.Rows.{table_forms}
use Rattle.expect_text.specs.Expect.{AreTables}
use Rattle.row_text.specs.TableForms.{table_text}
use Rattle.expect_text.proofs.expect.push_tables.Goals as goal

pub of-requires-2 : goal.of-requires-2
of-requires-2 c = rw (c.requires, c.in_ok-graph.ensures) (length-numbering c.args.component.now)

pub push_shared-requires-clause-numbers : goal.push_shared-requires-clause-numbers
push_shared-requires-clause-numbers c = c.requires ∙ ap numbering (sym c.in_ok-graph.ensures)

pub returns : goal.returns
returns c =
    subst (λ (es : List EntryOf). OnOk c.push_shared.result ((ts : List TableOf) × AreTables es c.args.any (length es) ts × (c.push_shared.new.text.items ≡ c.args.text.now.items ++ table_text (table_forms c.args.lives.now.script.now es 0 ts))))
    c.in_ok-graph.ensures c.push_shared.ensures
