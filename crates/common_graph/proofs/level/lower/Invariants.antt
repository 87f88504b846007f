use Rattle.std.specs.Prelude.{⊤}
use Rattle.common_graph.proofs.level.lower.Given as goal

abbrev pub invariant-places : goal.invariant-places
invariant-places l = ⊤

abbrev pub decreases-places : goal.decreases-places
decreases-places l = l.place
