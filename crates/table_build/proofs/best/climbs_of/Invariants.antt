use Rattle.std.proofs.Common.{◌≤◌, length, true, false}
use Rattle.table_build.proofs.PassLemmas.{AreBestAt}
use Rattle.table_build.proofs.best.climbs_of.Given as goal

-- the places from i on have their best ways
abbrev pub invariant-places : goal.invariant-places
invariant-places l = AreBestAt l.graph l.any true false l.from l.order (λ k. l.i ≤ k) l.bests.items × (l.i ≤ length l.order)

abbrev pub decreases-places : goal.decreases-places
decreases-places l = l.i
