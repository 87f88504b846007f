use Rattle.std.specs.Prelude.{⊤}
use Rattle.common_graph.proofs.tier_walk.Depths.walk.Given as goal

abbrev pub invariant-visits : goal.invariant-visits
invariant-visits l = ⊤
