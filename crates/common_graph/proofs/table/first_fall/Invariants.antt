use Rattle.std.proofs.Common.{◌<◌, ℕ}
use Rattle.common_graph.specs.Search.{HoldsFrom}
use Rattle.common_graph.proofs.table.first_fall.Given as goal

-- the nodes so far
abbrev pub invariant-nodes : goal.invariant-nodes
invariant-nodes l = (node : ℕ) → node < l.node → HoldsFrom l.graph l.table l.fall node
