use Rattle.std.proofs.Common.{◌∙◌, ◌++◌, sym, ap, refl}
use Rattle.topo_graph.specs.Topology.{life_at}
use Rattle.an_base.specs.Values.{LifeId}
use Rattle.table_build.specs.Exits.{is_entry}
use Rattle.common_lines.specs.Lines.{line_text}
use Rattle.row_text.specs.TableForms.{table_words}
use Rattle.row_text.specs.Rows.{row_form}
use Rattle.row_text.proofs.RowLemmas.{entries_more, entries_same}
use Rattle.row_text.proofs.row.push_row_lines.Goals as goal
use Rattle.row_text.proofs.row.push_row_lines.Goals.{then-is_entry+in_ok-push_row_line, else-is_entry}

pub entries-preserved : goal.entries-preserved
entries-preserved c =
    let s = c.args.lives.now.script.now in
    let g = c.args.graph.now in
    let rows = c.args.rows.now in
    elim c.if-is_entry.branch [
      | then-is_entry+in_ok-push_row_line w ↦ rw w.text-is (entries_more (row_form s (life_at g c.args.x) rows) (is_entry g c.args.x) c.args.text.now.items c.entries.text.items w.push_row_line.new.text.items c.entries.entry (sym c.is_entry.ensures.test ∙ w.if-is_entry.true) c.entries.invariant (w.in_ok-push_row_line.ensures ∙ ap (λ (l : LifeId). c.entries.text.items ++ line_text (table_words (row_form s l rows c.entries.entry))) c.life-life.ensures))
      | else-is_entry w ↦ rw w.text-is (entries_same (row_form s (life_at g c.args.x) rows) (is_entry g c.args.x) c.args.text.now.items c.entries.text.items c.entries.text.items c.entries.entry (sym c.is_entry.ensures.test ∙ w.if-is_entry.false) c.entries.invariant refl)
    ]
