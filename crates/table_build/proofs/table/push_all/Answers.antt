use Rattle.std.proofs.Common.{refl}
use Rattle.table_build.proofs.TableLemmas.{rows_same, rows_more}
use Rattle.table_build.proofs.table.push_all.Goals as goal
use Rattle.table_build.proofs.table.push_all.Goals.{then-is_entry+in_ok-push_rows, else-is_entry}

pub entries-preserved : goal.entries-preserved
entries-preserved c =
    let g = c.args.graph.now in
    let numbers = c.args.numbers.now in
    elim c.if-is_entry.branch [
      | then-is_entry+in_ok-push_rows w ↦ rw (w.rows-is, w.in_ok-push_rows.ensures) (rows_more g numbers c.args.any c.args.x _ c.entries.entry w.may_go_up.result c.entries.rows.items c.args.ways.now (rw (c.as_slice.ensures.all, c.from.ensures) refl) (c.is_entry.ensures.meaning.0 w.if-is_entry.true) w.may_go_up.ensures c.as_slice.ensures.numbers c.requires.count c.requires.ways c.entries.invariant)
      | else-is_entry w ↦ rw w.rows-is (rows_same g numbers c.args.any c.args.x c.entries.entry c.entries.rows.items c.entries.invariant (λ is. absurd (let passed = c.is_entry.ensures.meaning.1 is in let failed = w.if-is_entry.false in cc)))
    ]
