use Rattle.std.proofs.Common.{arith}
use Rattle.fabric_print.proofs.WordLemmas.{rows_more}
use Rattle.fabric_print.proofs.row.push_rows.Goals as goal

pub items-preserved : goal.items-preserved
items-preserved g c = rows_more g.T.HasRow.words c.args.items.now c.items.item-index c.item-item.result c.args.text.now.items c.items.text.items c.push.new.text.items (omega arith) c.item-item.is c.items.invariant c.in_ok-push.ensures
