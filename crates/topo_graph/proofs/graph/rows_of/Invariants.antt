use Rattle.topo_graph.specs.Table.{AreRows}
use Rattle.topo_graph.proofs.graph.rows_of.Given as goal

-- the entries so far have their rows
abbrev pub invariant-rows : goal.invariant-rows
invariant-rows l = AreRows l.entries l.rows.items l.x
