use Rattle.std.proofs.Common.{ℕ, List}
use Rattle.an_base.specs.Values.{EntryOf}
use Rattle.dep_check.specs.Worst.{AreSides, LeastBelow}
use Rattle.dep_check.proofs.illegal.least_between.Given as goal

-- the least of the rows so far
abbrev pub invariant-rows : goal.invariant-rows
invariant-rows l = (es : List EntryOf) (numbers : List ℕ) → AreSides es numbers l.sides.wires.now l.sides.up.now → LeastBelow es numbers l.rows l.row-index l.best
