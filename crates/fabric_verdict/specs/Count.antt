-- How many links, channels and dependencies there are.
use Rattle.std.specs.Prelude.{◌≡◌, ◌⊎◌, ◌<◌, ◌≤◌, ℕ}
use Rattle.fabric_tables.specs.Cells.{TablesOf}
use Rattle.fabric_model.specs.Fabric.{FabricOf}
use Rattle.fabric_model.specs.declared.traffic.Traffic.{Traffic}
use Rattle.fabric_routes.specs.Counting.{IsCountOf}
use Rattle.fabric_routes.specs.Found.{IsChannel}
use Rattle.fabric_routes.specs.Routes.{Channel, DependsOn}

-- the fabric has this number of channels
abbrev pub IsChannelCount : FabricOf → ℕ → Type 0
IsChannelCount fabric = IsCountOf (IsChannel fabric)

-- the port is the far one, or comes before it, by switch and then by port
abbrev pub IsFirstOf : (switch port to entry : ℕ) → Type 0
IsFirstOf switch port to entry = (switch < to) ⊎ ((switch ≡ to) × (port ≤ entry))

-- `channel` is a link between switches, out of the first of its two ports
pub record IsLinkAt (fabric : FabricOf) (channel : Channel) : Type 0 where
  pub leads : IsChannel fabric channel
  pub first : IsFirstOf channel.switch channel.port leads.to leads.entry

-- the fabric has this number of links between switches, counting each once
abbrev pub IsLinkCount : FabricOf → ℕ → Type 0
IsLinkCount fabric = IsCountOf (IsLinkAt fabric)

-- the first channel of the pair depends on the second
abbrev pub IsDependency : FabricOf → TablesOf → Traffic → Channel × Channel → Type 0
IsDependency fabric tables traffic pair = DependsOn fabric tables traffic pair.0 pair.1

-- this number of pairs of channels are dependencies
abbrev pub IsDependencyCount : FabricOf → TablesOf → Traffic → ℕ → Type 0
IsDependencyCount fabric tables traffic = IsCountOf (IsDependency fabric tables traffic)
