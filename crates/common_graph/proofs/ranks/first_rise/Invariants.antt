use Rattle.std.proofs.Common.{◌<◌, ℕ}
use Rattle.common_graph.specs.Graph.{FallFrom}
use Rattle.common_graph.proofs.ranks.first_rise.Given as goal

-- the nodes so far
abbrev pub invariant-nodes : goal.invariant-nodes
invariant-nodes l = (node : ℕ) → node < l.node → FallFrom l.graph l.ranks node
