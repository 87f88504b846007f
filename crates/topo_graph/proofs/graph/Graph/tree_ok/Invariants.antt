use Rattle.std.proofs.Common.{ℕ, ◌<◌}
use Rattle.topo_graph.specs.Topology.{entry_at}
use Rattle.topo_graph.specs.Stands.{Stands}
use Rattle.topo_graph.proofs.graph.Graph.tree_ok.Given as goal

-- the entries so far stand
abbrev pub invariant-entries : goal.invariant-entries
invariant-entries l = (y : ℕ) → y < l.x → Stands l.self y (entry_at l.self y).position
