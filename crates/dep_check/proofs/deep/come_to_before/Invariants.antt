use Rattle.dep_check.specs.Deep.{IsLonger}
use Rattle.dep_check.proofs.deep.come_to_before.Given as goal

-- at most as many visits more as there were entries so far
abbrev pub invariant-entries : goal.invariant-entries
invariant-entries l = IsLonger l.entry l.fn.path.items l.path.items
