use Rattle.std.proofs.Common.{◌∙◌, sym, refl}
use Rattle.row_text.specs.Rows.{row_form}
use Rattle.report.specs.Events.{has_line}
use Rattle.row_text.proofs.RowLemmas.{entries_more, entries_same}
use Rattle.report.proofs.telling.Telling.push_table.Goals as goal
use Rattle.report.proofs.telling.Telling.push_table.Goals.{then-has_line+in_ok-push_row_line, else-has_line}

pub entries-preserved : goal.entries-preserved
entries-preserved c =
    let s = c.args.self.now.script.now in
    let rows = c.args.rows.now in
    elim c.if-has_line.branch [
      | then-has_line+in_ok-push_row_line w ↦ rw w.text-is (entries_more (row_form s c.args.life rows) (has_line rows) c.args.text.now.items c.entries.text.items w.push_row_line.new.text.items c.entries.entry (sym c.has_line.ensures ∙ w.if-has_line.true) c.entries.invariant w.in_ok-push_row_line.ensures)
      | else-has_line w ↦ rw w.text-is (entries_same (row_form s c.args.life rows) (has_line rows) c.args.text.now.items c.entries.text.items c.entries.text.items c.entries.entry (sym c.has_line.ensures ∙ w.if-has_line.false) c.entries.invariant refl)
    ]
