use Rattle.std.proofs.Common.{◌<◌, ℕ}
use Rattle.common_graph.specs.Search.{IsRanked}
use Rattle.common_graph.proofs.ranks.are_ranks.Given as goal

-- the nodes so far
abbrev pub invariant-nodes : goal.invariant-nodes
invariant-nodes l = (node : ℕ) → node < l.node → IsRanked l.graph l.ranks node
