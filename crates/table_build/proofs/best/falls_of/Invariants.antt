use Rattle.std.proofs.Common.{◌<◌}
use Rattle.table_build.proofs.PassLemmas.{AreBestAt}
use Rattle.table_build.proofs.best.falls_of.Given as goal

-- the places before i have their best ways
abbrev pub invariant-places : goal.invariant-places
invariant-places l = AreBestAt l.graph l.search.any l.search.up l.search.down l.search.from l.order (λ k. k < l.i) l.bests.items
