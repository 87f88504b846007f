use Rattle.std.proofs.Common.{◌-◌, length}
use Rattle.common_graph.specs.Rows.{StandsAt}
use Rattle.common_graph.proofs.tier_walk.look_on.Given as goal

abbrev pub invariant-steps : goal.invariant-steps
invariant-steps l = StandsAt l.graph l.visit.node l.cursor

abbrev pub decreases-steps : goal.decreases-steps
decreases-steps l = length l.graph.bases - l.cursor.from
