use Rattle.dep_check.specs.Worst.{AreUpBelow}
use Rattle.dep_check.proofs.illegal.all_up.Given as goal

-- what leads up of the spots so far
abbrev pub invariant-spots : goal.invariant-spots
invariant-spots l = AreUpBelow l.graph l.numbers l.place l.up.items
