use Rattle.std.proofs.Common.{◌≡◌, ◌<◌, ◌+◌, ◌*◌, ◌↔◌, ℕ, Some}
use Rattle.std.specs.Int.{bit_at}
use Rattle.fabric_model.specs.Fabric.{owner_of}
use Rattle.fabric_routes.proofs.sender.owned_by.Given as goal

abbrev pub invariant-bits : goal.invariant-bits
invariant-bits l = (bit : ℕ) → ((bit_at l.word bit ≡ 1) ↔ ((bit < l.bit) × (owner_of l.fabric (64 * l.block + bit) ≡ Some l.who)))
