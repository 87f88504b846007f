use Rattle.std.proofs.Common.{◌-◌, ℕ}
use Rattle.std.specs.Prelude.{sum_by}
use Rattle.common_graph.specs.Search.{AreRising}
use Rattle.common_graph.proofs.rising.exact_ranks.Given as goal

abbrev pub invariant-rises : goal.invariant-rises
invariant-rises l = AreRising l.graph l.ranks.items

abbrev pub decreases-rises : goal.decreases-rises
decreases-rises l = sum_by (λ (rank : ℕ). 4294967296 - rank) l.ranks.items
