use Rattle.std.proofs.Common.{◌≡◌, ◌<◌, ◌+◌, ◌*◌, ◌↔◌, ℕ, Some}
use Rattle.fabric_model.specs.declared.node.EndPort.{EndPort}
use Rattle.fabric_model.specs.Fabric.{start_of}
use Rattle.fabric_tables.specs.Cells.{tables_of}
use Rattle.fabric_routes.specs.Routes.{Sends}
use Rattle.fabric_routes.specs.Waves.{HasBit}
use Rattle.fabric_routes.proofs.sender.put_starts.Given as goal

abbrev pub invariant-switches : goal.invariant-switches
invariant-switches l = (switch bit : ℕ) → switch < l.switch → (HasBit l.words switch bit ↔ ((bit < 64) × ((source : EndPort) × Sends l.fabric (tables_of l.cells) l.fn.traffic (64 * l.block + bit) source × (start_of l.fabric source ≡ Some switch))))
