use Rattle.std.specs.Prelude.{⊤}
use Rattle.common_graph.proofs.tier_walk.Depths.leave.Given as goal

abbrev pub invariant-open : goal.invariant-open
invariant-open l = ⊤

abbrev pub decreases-open : goal.decreases-open
decreases-open l = l.self.open_count
