use Rattle.std.proofs.Common.{◌≡◌, ℕ}
use Rattle.std.specs.Int.{bit_at}
use Rattle.dep_check.specs.Worst.{IsBadExit}
use Rattle.dep_check.proofs.illegal.are_legal_at.Given as goal

-- none of those that are not left is bad
abbrev pub invariant-exits : goal.invariant-exits
invariant-exits l = (p : ℕ) → bit_at l.exits p ≡ 1 → (bit_at l.left p ≡ 1 → ⊥) → IsBadExit l.sides.wires.now l.sides.up.now l.spot.at l.came_down p → ⊥

abbrev pub decreases-exits : goal.decreases-exits
decreases-exits l = l.left
