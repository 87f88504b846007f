use Rattle.std.proofs.Common.{◌≡◌, ◌≢◌, ◌+◌, ◌*◌, ◌<◌, ◌↔◌, ℕ, Some, sym, subst}
use Rattle.std.specs.Int.{bit_at}
use Rattle.std.specs.Int.RustNames.{bit_or}
use Rattle.fabric_tables.specs.Cells.{TablesOf}
use Rattle.fabric_model.specs.declared.node.EndPort.{EndPort}
use Rattle.fabric_model.specs.Fabric.{FabricOf, owner_of}
use Rattle.fabric_routes.specs.declared.audience.Targets.{Targets}
use Rattle.fabric_model.specs.declared.traffic.Traffic.{Traffic}
use Rattle.fabric_routes.specs.Audience.{AreTargets}
use Rattle.fabric_routes.specs.Routes.{IsSource, Sends}
use Rattle.fabric_routes.proofs.AudienceLemmas.{sent_by_host, sent_by_switch}
use Rattle.fabric_routes.proofs.audience.Targets.sent_by.Goals as goal

-- a word has the LIDs to which an end port sends
abbrev IsSentWord : Targets → ℕ → EndPort → Type 0
IsSentWord targets word source =
    (fabric : FabricOf) (tables : TablesOf) (traffic : Traffic) (block : ℕ)
    → AreTargets fabric tables traffic block targets → IsSource fabric traffic source
    → (bit : ℕ) → owner_of fabric (64 * block + bit) ≢ Some source
    → ((bit_at word bit ≡ 1) ↔ ((bit < 64) × Sends fabric tables traffic (64 * block + bit) source))

pub returns-in-Host : goal.returns-in-Host
returns-in-Host c = subst (IsSentWord c.args.self (bit_or c.args.self.hosts c.args.self.everyone)) (sym c.in-Host.is)
    (λ fabric tables traffic block are is bit other. sent_by_host fabric tables traffic block c.args.self are c.in-Host.field-0 is bit other)

pub returns-in-Switch : goal.returns-in-Switch
returns-in-Switch c = subst (IsSentWord c.args.self c.args.self.everyone) (sym c.in-Switch.is)
    (λ fabric tables traffic block are is bit other. sent_by_switch fabric tables traffic block c.args.self are c.in-Switch.field-0 is bit other)
