use Rattle.std.specs.Prelude.{⊤}
use Rattle.common_graph.proofs.rank_walk.walk.Given as goal

abbrev pub invariant-visits : goal.invariant-visits
invariant-visits l = ⊤
