-- What is said of a fabric, its tables, its lanes, a traffic and service levels, of those of a routing.

use Rattle.std.specs.Prelude.{ℕ}
use Rattle.fabric_model.specs.Fabric.{FabricOf}
use Rattle.fabric_model.specs.declared.node.Spot.{Spot}
use Rattle.fabric_tables.specs.Cells.{TablesOf, tables_of}
use Rattle.fabric_lane_tables.specs.Lanes.{LanesOf, lanes_of}
use Rattle.fabric_lane_tables.specs.Levels.{levels_of}
use Rattle.fabric_lane_tables.specs.PathLevels.{LevelsOf}
use Rattle.fabric_model.specs.declared.traffic.Traffic.{Traffic}
use Rattle.fabric_lane_routes.specs.declared.hop.LaneHop.{LaneHop}
use Rattle.fabric_lane_routes.specs.declared.routing.LaneRouting.{LaneRouting}
use Rattle.fabric_lane_routes.specs.LaneRoutes.{lane_hop}

-- of a routing, what is said of a fabric, tables and lanes
abbrev pub by_lanes : {A : Type 1} → (FabricOf → TablesOf → LanesOf → A) → LaneRouting → A
by_lanes Says routing = Says routing.fabric.now (tables_of routing.cells.now) (lanes_of routing.lanes.now)

-- of a routing, what is said of a fabric, tables, lanes, a traffic and levels
abbrev pub by_routing : {A : Type 1} → (FabricOf → TablesOf → LanesOf → Traffic → LevelsOf → A) → LaneRouting → A
by_routing Says routing = by_lanes Says routing routing.traffic (levels_of routing.levels.now)

-- the hop of a routing, for what has a level and goes to a LID
abbrev pub hop_by : LaneRouting → ℕ → ℕ → Spot → LaneHop
hop_by routing = lane_hop routing.fabric.now (tables_of routing.cells.now) (lanes_of routing.lanes.now)
