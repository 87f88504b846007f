use Rattle.std.proofs.Common.{◌≡◌, ℕ}
use Rattle.std.specs.Prelude.{sum_by}
use Rattle.common_graph.specs.Search.{AreExact}
use Rattle.common_graph.specs.Graph.{value_at}
use Rattle.common_graph.proofs.cycle.exact_levels.Given as goal

abbrev pub invariant-falls : goal.invariant-falls
invariant-falls l = record {
  exact : AreExact l.graph l.levels.items l.start;
  goal : value_at l.levels.items l.start ≡ 0;
}

abbrev pub decreases-falls : goal.decreases-falls
decreases-falls l = sum_by (λ (level : ℕ). level) l.levels.items
