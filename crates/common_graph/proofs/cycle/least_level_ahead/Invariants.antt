use Rattle.std.proofs.Common.{◌≡◌, ◌⊎◌, ◌-◌, length}
use Rattle.common_graph.specs.Rows.{StandsAt}
use Rattle.common_graph.specs.Search.{IsLowest, HasBelow}
use Rattle.common_graph.proofs.cycle.least_level_ahead.Given as goal

-- the steps so far
abbrev pub invariant-steps : goal.invariant-steps
invariant-steps l = record { stands : StandsAt l.graph l.node l.cursor; so_far : IsLowest l.graph l.levels l.node l.cursor.from l.least × ((l.least ≡ 4294967295) ⊎ HasBelow l.graph l.levels l.node l.least) }

abbrev pub decreases-steps : goal.decreases-steps
decreases-steps l = length l.graph.bases - l.cursor.from
