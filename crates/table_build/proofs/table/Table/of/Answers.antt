use Rattle.std.proofs.Common.{refl}
use Rattle.table_build.proofs.TableLemmas.{all_rows}
use Rattle.table_build.proofs.table.Table.of.Goals as goal

pub returns : goal.returns
returns c = all_rows c.args.graph.now c.args.numbers.now c.args.any c.args.x _ c.in_ok-rows.rows.items c.in_ok-ways.ensures.graph (rw (c.as_slice.ensures.all, c.from.ensures) refl) c.in_ok-rows.ensures
