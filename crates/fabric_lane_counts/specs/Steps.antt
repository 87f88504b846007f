-- How routes are counted, LID by LID, end port by end port and level by level. Only private functions cite
-- this.
use Rattle.std.specs.Prelude.{◌≡◌, ◌<◌, ◌≤◌, ◌+◌, ◌*◌, ◌^◌, ◌⊎◌, ℕ, Option, Some, None, length}
use Rattle.fabric_tables.specs.Cells.{TablesOf, tables_of}
use Rattle.fabric_counts.specs.Counts.{Route}
use Rattle.fabric_counts.specs.Steps.{place_of}
use Rattle.fabric_lane_counts.specs.declared.counts.LaneCounts.{LaneCounts}
use Rattle.fabric_lane_counts.specs.declared.counts.LostLaneRoute.{LostLaneRoute}
use Rattle.fabric_lane_counts.specs.declared.room.Rooms.{Rooms}
use Rattle.fabric_lane_counts.specs.declared.route.BegunRoute.{BegunRoute}
use Rattle.fabric_lane_counts.specs.LaneCounts.{AreCountsOf, IsLaneRouteOf, IsSilent, LaneRoute}
use Rattle.fabric_lane_routes.specs.declared.hop.LaneOutcome.{LaneOutcome}
use Rattle.fabric_lane_routes.specs.declared.hop.LaneOutcome.TheVariants as lane
use Rattle.fabric_lane_routes.specs.declared.routing.LaneRouting.{LaneRouting}
use Rattle.fabric_lane_routes.specs.LaneRoutes.{LaneSends}
use Rattle.fabric_model.specs.declared.node.EndPort.{EndPort}
use Rattle.fabric_model.specs.Fabric.{FabricOf, guid_of}
use Rattle.fabric_routes.specs.Counting.{IsCountOf}
use Rattle.fabric_routes.specs.declared.hop.Outcome.{Outcome}
use Rattle.fabric_routes.specs.declared.hop.Outcome.TheVariants.{Arrives, Stops, Loops}
use Rattle.fabric_model.specs.declared.traffic.Traffic.{Traffic}
use Rattle.fabric_lane_tables.specs.Lanes.{LanesOf}
use Rattle.fabric_lane_tables.specs.Levels.{levels_of}
use Rattle.fabric_lane_tables.specs.PathLevels.{LevelsOf}

-- how a route ends on lanes that ends so on one lane, if nothing discards it
abbrev pub on_lanes : Outcome → LaneOutcome
on_lanes (Arrives switches) = lane.Arrives switches
on_lanes (Stops cause) = lane.Stops cause
on_lanes Loops = lane.Loops

-- a route to a lesser LID; or to this one, from one of the first so many end ports; or from the next one, with
-- a lesser level
abbrev pub IsUntil : FabricOf → TablesOf → Traffic → LevelsOf → (lid place level : ℕ) → LaneRoute → Type 0
IsUntil fabric tables traffic levels lid place level route =
    IsLaneRouteOf fabric tables traffic levels route
    × ((route.lid < lid)
    ⊎ ((route.lid ≡ lid)
    × ((place_of fabric route.source < place)
    ⊎ ((place_of fabric route.source ≡ place) × (route.level < level)))))

-- a pair without a level, of a lesser LID; or of this one and one of the first so many end ports
abbrev pub IsSilentUntil : FabricOf → TablesOf → Traffic → LevelsOf → (lid place : ℕ) → Route → Type 0
IsSilentUntil fabric tables traffic levels lid place pair =
    IsSilent fabric tables traffic levels pair
    × ((pair.lid < lid) ⊎ ((pair.lid ≡ lid) × (place_of fabric pair.source < place)))

-- Of a routing, the routes before those of an end port to a LID with a level or a greater one ..
abbrev pub IsBeforeLevel : LaneRouting → (lid : ℕ) → EndPort → (level : ℕ) → LaneRoute → Type 0
IsBeforeLevel routing lid source =
    IsUntil routing.fabric.now (tables_of routing.cells.now) routing.traffic (levels_of routing.levels.now) lid
    (place_of routing.fabric.now source)

-- .. the routes before one ..
abbrev pub IsBefore : LaneRouting → BegunRoute → LaneRoute → Type 0
IsBefore routing route = IsBeforeLevel routing route.lid route.source route.level

-- .. and those up to it
abbrev pub IsUpTo : LaneRouting → BegunRoute → LaneRoute → Type 0
IsUpTo routing route = IsBeforeLevel routing route.lid route.source (route.level + 1)

-- a route is one of the traffic and levels of a routing
abbrev pub IsSent : LaneRouting → BegunRoute → Type 0
IsSent routing route =
    LaneSends routing.fabric.now (tables_of routing.cells.now) routing.traffic (levels_of routing.levels.now)
    route.lid route.source route.level

-- a route to a LID is to be told in place of the least one so far, if there is one
abbrev pub IsLesser : FabricOf → Option LostLaneRoute → ℕ → EndPort → Type 0
IsLesser fabric None lid source = Unit {0}
IsLesser fabric (Some told) lid source =
    (told.lid ≡ lid) × (guid_of fabric source < guid_of fabric told.source)

-- rooms for so many switches
pub record AreRooms (count : ℕ) (rooms : Rooms) : Type 0 where
  pub marks : length rooms.marks.items ≡ count
  pub path : length rooms.path.items ≡ count
  pub gone : length rooms.gone.items ≡ count

module _ (fabric : FabricOf) (tables : TablesOf) (lanes : LanesOf) (traffic : Traffic)
    (levels : LevelsOf) where
  -- the counts of those, which are not too many
  pub record AreCountsUntil (lid place level : ℕ) (counts : LaneCounts) : Type 0 where
    pub exact : AreCountsOf fabric tables lanes (IsUntil fabric tables traffic levels lid place level) counts
    pub silent : IsCountOf (IsSilentUntil fabric tables traffic levels lid place) counts.silent
    pub few : counts.routes ≤ 16 * (lid * 2 ^ 17 + place) + level
    pub few_silent : counts.silent ≤ lid * 2 ^ 17 + place
    pub few_unowned : counts.unowned ≤ counts.arrived
