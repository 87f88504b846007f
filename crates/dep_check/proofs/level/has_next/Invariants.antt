use Rattle.std.proofs.Common.{◌≡◌, ℕ}
use Rattle.std.specs.Int.{bit_at}
use Rattle.dep_check.specs.Ports.{HasOnlyPorts}
use Rattle.dep_check.specs.Search.{HasNextBy}
use Rattle.dep_check.proofs.level.has_next.Given as goal

-- no step by the exits that are not left is such
abbrev pub invariant-exits : goal.invariant-exits
invariant-exits l = record {
  none : (e : ℕ) → (bit_at l.left e ≡ 1 → ⊥) → HasNextBy l.steps l.levels l.spot l.has e → ⊥;
  ports : HasOnlyPorts l.left;
}

abbrev pub decreases-exits : goal.decreases-exits
decreases-exits l = l.left
