use Rattle.std.proofs.Common.{◌∙◌, ◌++◌, ◌∷◌, [], ap, List}
use Rattle.switch_numbering.proofs.Differing.{length-numbering}
use Rattle.an_base.specs.Rows.{RowOf}
use Rattle.row_text.specs.Rows.{member_rows}
use Rattle.row_text.specs.TableForms.{table_text}
use Rattle.expect_text.proofs.TextLemmas.{tables_more, tables_text}
use Rattle.expect_text.proofs.expect.push_shared.Goals as goal

pub of-requires-clause-count : goal.of-requires-clause-count
of-requires-clause-count c = rw c.requires.numbers (length-numbering c.args.graph.now)

pub members-preserved : goal.members-preserved
members-preserved c =
    let s = c.args.lives.now.script.now in
    let es = c.args.graph.now in
    let i = c.members.invariant in
    let table = c.in_ok-table.table in
    let is = rw c.requires.numbers at c.in_ok-table.ensures in
    let old = c.members.text.items in
    let line = c.in_ok-push_row_lines.ensures ∙ ap (λ (rows : List RowOf). old ++ table_text (member_rows s es c.members.x rows)) c.as_slice.ensures in
    (i.0 ++ table ∷ [], tables_more es c.args.any c.members.x i.0 table i.1 is, tables_text s es c.members.x i.0 table c.args.text.now.items c.members.text.items c.push_row_lines.new.text.items i.1.count i.2 line)
