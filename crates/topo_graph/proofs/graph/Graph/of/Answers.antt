use Rattle.topo_graph.proofs.RowLemmas.{all_rows}
use Rattle.topo_graph.proofs.graph.Graph.of.Goals as goal

pub invariant_of-result : goal.invariant_of-result
invariant_of-result c =
    let s = c.as_slice.ensures in
    rw c.in_ok-entries.ensures (all_rows c.args.entries.now c.in_ok-rows.rows.items s.some s.most s.rising (rw s.all at c.in_ok-rows.ensures))
