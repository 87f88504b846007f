use Rattle.std.specs.Prelude.{⊤}
use Rattle.common_graph.proofs.level.walk.Given as goal

abbrev pub invariant-nodes : goal.invariant-nodes
invariant-nodes l = ⊤
