use Rattle.dep_check.specs.Tables.{wire_at}
use Rattle.dep_check.specs.Search.{AreBetween}
use Rattle.dep_check.specs.Pairs.{IsLeastPair}
use Rattle.dep_check.proofs.gap.least_pair.Given as goal

-- the least pair of the targets so far
abbrev pub invariant-numbers : goal.invariant-numbers
invariant-numbers l = record {
  least : IsLeastPair (wire_at l.fn.steps.wires.items) l.numbers l.rows l.to l.best;
  kept : AreBetween l.fn.steps.wires.items l.steps;
}
