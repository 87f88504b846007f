use Rattle.std.proofs.Common.{◌-◌, length}
use Rattle.common_graph.specs.Rows.{StandsAt}
use Rattle.common_graph.proofs.rank_walk.Visit.look_on.Given as goal

abbrev pub invariant-steps : goal.invariant-steps
invariant-steps l = StandsAt l.graph l.node l.cursor

abbrev pub decreases-steps : goal.decreases-steps
decreases-steps l = length l.graph.bases - l.cursor.from
