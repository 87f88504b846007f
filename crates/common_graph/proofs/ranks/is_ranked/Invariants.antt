use Rattle.std.proofs.Common.{◌-◌, length}
use Rattle.common_graph.specs.Rows.{StandsAt}
use Rattle.common_graph.specs.Search.{IsHeight}
use Rattle.common_graph.proofs.ranks.is_ranked.Given as goal

-- the height is by what it leads to so far
abbrev pub invariant-steps : goal.invariant-steps
invariant-steps l = record { stands : StandsAt l.graph l.node l.cursor; so_far : IsHeight l.graph l.ranks l.node l.cursor.from l.height }

abbrev pub decreases-steps : goal.decreases-steps
decreases-steps l = length l.graph.bases - l.cursor.from
