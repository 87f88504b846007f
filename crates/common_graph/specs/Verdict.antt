-- The verdict on a graph.
use Rattle.std.specs.Ordering.{nat_cmp}
use Rattle.std.specs.Prelude.{List, ℕ, slice_get}
use Rattle.common_graph.specs.declared.verdict.Verdict.{Verdict}
use Rattle.common_graph.specs.declared.verdict.Verdict.TheVariants.{Ranks, Cycle}
use Rattle.common_graph.specs.Graph.{GraphOf, LeadsTo, IsNode}
use Rattle.common_graph.specs.Cycles.{HasNoCycle, IsLeastCycle, AreRanks}

-- `ranks` has the ranks of all nodes
abbrev pub AreAllRanks : GraphOf → List ℕ → Type 0
AreAllRanks graph ranks = AreRanks (IsNode graph) (LeadsTo graph) (slice_get ranks)

-- no steps form a cycle, and `ranks` are the ranks of the nodes
pub record Passes (graph : GraphOf) (ranks : List ℕ) : Type 0 where
  pub no_cycle : HasNoCycle (LeadsTo graph)
  pub ranked : AreAllRanks graph ranks

-- a verdict is the ranks of all nodes, or the least cycle
abbrev pub IsVerdict : GraphOf → Verdict → Type 0
IsVerdict graph (Ranks ranks) = Passes graph ranks.items
IsVerdict graph (Cycle nodes) = IsLeastCycle nat_cmp (LeadsTo graph) nodes.items
