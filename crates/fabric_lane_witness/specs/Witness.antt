-- Channels on lanes as they are told, and that no route takes one and then another.
use Rattle.std.specs.Prelude.{ℕ}
use Rattle.fabric_model.specs.declared.node.EndPort.{EndPort}
use Rattle.fabric_model.specs.Fabric.{FabricOf}
use Rattle.fabric_tables.specs.Cells.{TablesOf}
use Rattle.fabric_lane_tables.specs.Lanes.{LanesOf}
use Rattle.fabric_lane_tables.specs.PathLevels.{LevelsOf}
use Rattle.fabric_model.specs.declared.traffic.Traffic.{Traffic}
use Rattle.fabric_lane_routes.specs.LaneRoutes.{LaneChannel, LaneTakes}
use Rattle.fabric_lane_witness.specs.declared.witness.LaneSpot.{LaneSpot}

abbrev pub lane_channel_of : LaneSpot → LaneChannel
lane_channel_of spot = record { switch = spot.switch; port = spot.port; lane = spot.lane }

-- no route takes a channel and then another one
abbrev pub HasNoLaneWitness :
    FabricOf → TablesOf → LanesOf → Traffic → LevelsOf → LaneChannel → LaneChannel → Type 0
HasNoLaneWitness fabric tables lanes traffic levels channel next =
    (lid : ℕ) (source : EndPort) (level : ℕ)
    → LaneTakes fabric tables lanes traffic levels lid source level channel next → ⊥
