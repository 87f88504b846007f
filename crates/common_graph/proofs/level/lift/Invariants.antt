use Rattle.std.specs.Prelude.{⊤}
use Rattle.common_graph.proofs.level.lift.Given as goal

abbrev pub invariant-places : goal.invariant-places
invariant-places l = ⊤
