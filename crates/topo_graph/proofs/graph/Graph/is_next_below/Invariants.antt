use Rattle.std.proofs.Common.{ℕ, ◌<◌, ◌≤◌}
use Rattle.topo_graph.specs.Stands.{IsAfter}
use Rattle.topo_graph.proofs.graph.Graph.is_next_below.Given as goal

-- what the ports so far lead to comes after the parent
abbrev pub invariant-ports : goal.invariant-ports
invariant-ports l = (o : ℕ) → 1 ≤ o → o < l.port → IsAfter l.self l.x l.parent l.place o
