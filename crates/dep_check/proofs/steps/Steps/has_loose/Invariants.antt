use Rattle.std.proofs.Common.{◌≡◌, ℕ, None}
use Rattle.std.specs.Int.{bit_at}
use Rattle.dep_check.specs.Tables.{wire_at}
use Rattle.dep_check.proofs.steps.Steps.has_loose.Given as goal

-- those that are not left have a link
abbrev pub invariant-ports : goal.invariant-ports
invariant-ports l = record {
  linked : (p : ℕ) → bit_at l.ports p ≡ 1 → (bit_at l.left p ≡ 1 → ⊥) → wire_at l.self.wires.items (record { at = l.at; port = p }) ≡ None → ⊥;
  within : (p : ℕ) → bit_at l.left p ≡ 1 → bit_at l.ports p ≡ 1;
}

abbrev pub decreases-ports : goal.decreases-ports
decreases-ports l = l.left
