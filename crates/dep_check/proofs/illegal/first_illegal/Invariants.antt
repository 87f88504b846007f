use Rattle.std.proofs.Common.{◌<◌, ℕ, get_or}
use Rattle.dep_check.specs.Worst.{IsBadExit}
use Rattle.dep_check.proofs.illegal.first_illegal.Given as goal

-- none of the exits so far is bad
abbrev pub invariant-exits : goal.invariant-exits
invariant-exits l = (k : ℕ) → k < l.exit-index → IsBadExit l.sides.wires.now l.sides.up.now l.row.at l.came_down (get_or l.exit-items k 0) → ⊥
