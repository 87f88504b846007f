-- Channels on lanes of a fabric, and what is told of routes: whether one stops, and the least that makes a dependency.
use Rattle.std.specs.Prelude.{◌≡◌, ◌<◌, ◌≤◌, ◌+◌, ◌-◌, ◌*◌, ℕ}
use Rattle.fabric_model.specs.declared.node.EndPort.{EndPort}
use Rattle.fabric_model.specs.declared.node.Side.TheVariants.{To}
use Rattle.fabric_model.specs.Fabric.{FabricOf, guid_of, side_of}
use Rattle.fabric_tables.specs.Cells.{TablesOf}
use Rattle.fabric_lane_tables.specs.Lanes.{LanesOf}
use Rattle.fabric_lane_tables.specs.PathLevels.{LevelsOf}
use Rattle.fabric_model.specs.declared.traffic.Traffic.{Traffic}
use Rattle.fabric_routes.specs.Routes.{Channel}
use Rattle.fabric_lane_routes.specs.LaneRoutes.{IsLaneStopped, LaneChannel, LaneTakes}

-- the link of a channel
abbrev pub link_of : LaneChannel → Channel
link_of channel = record { switch = channel.switch; port = channel.port }

-- a channel is a link to a switch, on one of so many lanes
pub record IsLaneChannel (fabric : FabricOf) (count : ℕ) (channel : LaneChannel) : Type 0 where
  pub to : ℕ
  pub entry : ℕ
  pub leads : side_of fabric channel.switch channel.port ≡ To to entry
  pub low : channel.lane < count

-- the number of a channel: by switch, then by port, then by lane
abbrev pub lane_number : FabricOf → ℕ → LaneChannel → ℕ
lane_number fabric count channel =
    (channel.switch * fabric.most + (channel.port - 1)) * count + channel.lane

-- some route of the traffic stops, or is discarded
abbrev pub SomeIsLaneStopped : FabricOf → TablesOf → LanesOf → Traffic → LevelsOf → Type 0
SomeIsLaneStopped fabric tables lanes traffic levels =
    (lid : ℕ) × ((source : EndPort) × ((level : ℕ) × IsLaneStopped fabric tables lanes traffic levels lid source level))

-- The route to the least LID that takes a channel and then another one; of those to it one from the end port of least
-- GUID; of those from it the one with the least level.
pub record IsLeastLaneWitness (fabric : FabricOf) (tables : TablesOf) (lanes : LanesOf) (traffic : Traffic)
    (levels : LevelsOf) (channel next : LaneChannel) (lid : ℕ) (source : EndPort) (level : ℕ)
    : Type 0 where
  pub takes : LaneTakes fabric tables lanes traffic levels lid source level channel next
  pub least :
      (other_lid : ℕ) (other : EndPort) (other_level : ℕ)
      → LaneTakes fabric tables lanes traffic levels other_lid other other_level channel next → lid ≤ other_lid
  pub first :
      (other : EndPort) (other_level : ℕ)
      → LaneTakes fabric tables lanes traffic levels lid other other_level channel next
      → guid_of fabric source ≤ guid_of fabric other
  pub lowest :
      (other_level : ℕ) → LaneTakes fabric tables lanes traffic levels lid source other_level channel next
      → level ≤ other_level
