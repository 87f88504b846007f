use Rattle.std.proofs.Common.{◌≡◌, ℕ}
use Rattle.std.specs.Int.{bit_at}
use Rattle.dep_check.specs.Ports.{HasOnlyPorts}
use Rattle.dep_check.specs.Tiers.{SinksBy}
use Rattle.dep_check.proofs.tier.rises_from.Given as goal

-- no step by the exits that are not left is such
abbrev pub invariant-exits : goal.invariant-exits
invariant-exits l = record {
  none : (e : ℕ) → (bit_at l.left e ≡ 1 → ⊥) → SinksBy l.steps l.tiers l.spot e → ⊥;
  ports : HasOnlyPorts l.left;
}

abbrev pub decreases-exits : goal.decreases-exits
decreases-exits l = l.left
