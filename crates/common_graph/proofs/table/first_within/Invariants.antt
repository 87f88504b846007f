use Rattle.std.proofs.Common.{◌-◌, length}
use Rattle.common_graph.specs.Rows.{StandsAt}
use Rattle.common_graph.specs.Search.{HasNoneSoFar}
use Rattle.common_graph.proofs.table.first_within.Given as goal

-- the steps so far
abbrev pub invariant-steps : goal.invariant-steps
invariant-steps l = record { stands : StandsAt l.graph l.node l.cursor; so_far : HasNoneSoFar l.graph l.table l.node l.least l.most l.cursor.from }

abbrev pub decreases-steps : goal.decreases-steps
decreases-steps l = length l.graph.bases - l.cursor.from
