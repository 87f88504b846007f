use Rattle.std.proofs.Common.{◌<◌, ℕ}
use Rattle.common_graph.specs.Search.{HasNoCycleFrom}
use Rattle.common_graph.proofs.cycle.least_cycle.Given as goal

-- none of the nodes so far is on a cycle
abbrev pub invariant-nodes : goal.invariant-nodes
invariant-nodes l = (node : ℕ) → node < l.start → HasNoCycleFrom l.graph node
