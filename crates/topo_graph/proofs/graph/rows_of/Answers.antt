use Rattle.topo_graph.proofs.RowLemmas.{rows_more}
use Rattle.topo_graph.proofs.graph.rows_of.Goals as goal

pub rows-preserved : goal.rows-preserved
rows-preserved c =
    rw c.in_ok-push.ensures.items (rows_more c.args.entries.now c.rows.x c.rows.rows.items c.row_of.result c.rows.invariant c.row_of.ensures.links c.row_of.ensures.range c.row_of.ensures.ports)
