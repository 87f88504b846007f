use Rattle.dep_check.specs.Deep.{IsLonger}
use Rattle.dep_check.proofs.deep.come_to_next.Given as goal

-- at most as many visits more as there were exits so far
abbrev pub invariant-exits : goal.invariant-exits
invariant-exits l = IsLonger l.exit l.fn.path.items l.path.items
