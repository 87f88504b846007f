use Rattle.table_build.specs.Bests.{IsBest, OverBelow}
use Rattle.table_build.proofs.best.best_over.Given as goal

-- the best over the links so far
abbrev pub invariant-links : goal.invariant-links
invariant-links l = IsBest l.search.any (OverBelow l.graph l.search l.links l.link-index) l.best
