use Rattle.dep_check.specs.Search.{LeastAfter}
use Rattle.dep_check.proofs.cycle.least_after.Given as goal

-- the least level after the exits so far
abbrev pub invariant-exits : goal.invariant-exits
invariant-exits l = LeastAfter l.steps l.levels l.channel l.exit l.best
