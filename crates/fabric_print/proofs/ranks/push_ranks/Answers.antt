use Rattle.std.proofs.lemmas.Result.{on_ok_weaker}
use Rattle.fabric_print.proofs.RowLemmas.{ranks_are}
use Rattle.fabric_print.proofs.ranks.push_ranks.Goals as goal

pub returns : goal.returns
returns c = on_ok_weaker c.push_rows.result (ranks_are c.args.ranks.now c.args.text.now.items c.push_row.new.text.items c.push_rows.new.text.items c.in_ok-push_row.ensures) c.push_rows.ensures
