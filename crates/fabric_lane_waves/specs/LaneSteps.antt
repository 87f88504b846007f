-- What goes out of a switch on a lane, as a place of the waves, and its steps.
use Rattle.std.specs.Prelude.{◌≡◌, ◌<◌, ◌≤◌, ◌+◌, ◌-◌, ◌*◌, ◌/◌, ◌⊎◌, ◌↔◌, ℕ, List, Some, length}
use Rattle.std.specs.Prelude.{slice_index, slice_index_or}
use Rattle.common_graph.specs.Graph.{GraphOf, LeadsTo}
use Rattle.fabric_model.specs.declared.node.Side.TheVariants.{Bare, To}
use Rattle.fabric_model.specs.declared.node.Spot.{Spot}
use Rattle.fabric_model.specs.Fabric.{FabricOf, side_of, switch_count}
use Rattle.fabric_tables.specs.Cells.{TablesOf, tables_of}
use Rattle.fabric_lane_tables.specs.Lanes.{LanesOf, lanes_of}
use Rattle.fabric_routes.specs.Finding.{base_of}
use Rattle.fabric_lane_routes.specs.declared.hop.LaneHop.TheVariants.{On}
use Rattle.fabric_lane_routes.specs.LaneFound.{lane_number}
use Rattle.fabric_lane_routes.specs.LaneRoutes.{IsLaneStop, LaneChannel, lane_hop}
use Rattle.fabric_lane_routes.specs.declared.routing.LaneRouting.{LaneRouting}
use Rattle.fabric_lane_waves.specs.declared.block.BlockRoutes.{BlockRoutes}
use Rattle.fabric_lane_waves.specs.declared.departure.Departure.{Departure}

-- the place of what goes out of a switch on a lane with a level: by level, then by switch, then by lane
abbrev pub departure_place : (switches count level switch lane : ℕ) → ℕ
departure_place switches count level switch lane = (level * switches + switch) * count + lane

-- so many places are those of whole levels, at most sixteen
abbrev pub ArePlaces : (switches count places : ℕ) → Type 0
ArePlaces switches count places = (levels : ℕ) × (levels ≤ 16) × (places ≡ levels * switches * count)

-- of a routing, how many places so many levels have, the place of a departure, and words for places
abbrev pub place_count : LaneRouting → (levels : ℕ) → ℕ
place_count routing levels = levels * switch_count routing.fabric.now * routing.lanes.now.count

abbrev pub place_on : LaneRouting → Departure → ℕ
place_on routing from =
    departure_place (switch_count routing.fabric.now) routing.lanes.now.count from.level from.switch from.lane

abbrev pub AreWordsOn : LaneRouting → List ℕ → Type 0
AreWordsOn routing words = ArePlaces (switch_count routing.fabric.now) routing.lanes.now.count (length words)

-- the rows are for the channels of the fabric on so many lanes: the row of each begins with lane 0 of port 1 of the switch
-- to which it leads
pub record IsLaneGraphOf (fabric : FabricOf) (count : ℕ) (graph : GraphOf) : Type 0 where
  pub nodes : length graph.bases ≡ switch_count fabric * fabric.most * count
  pub wide : fabric.most * count ≤ 64 * graph.wide
  pub bases :
      (switch port next entry lane : ℕ) → side_of fabric switch port ≡ To next entry → lane < count
      → slice_index graph.bases ((switch * fabric.most + (port - 1)) * count + lane) ≡ next * (fabric.most * count)

-- .. on the lanes of a routing
abbrev pub IsGraphOn : LaneRouting → GraphOf → Type 0
IsGraphOn routing graph = IsLaneGraphOf routing.fabric.now routing.lanes.now.count graph

-- the first so many bases: of a channel, lane 0 of port 1 of the switch to which its port leads
pub record AreLaneBases (fabric : FabricOf) (count end : ℕ) (bases : List ℕ) : Type 0 where
  pub size : length bases ≡ switch_count fabric * fabric.most * count
  pub each :
      (channel : ℕ) → channel < end
      → slice_index bases channel ≡ base_of (fabric.most * count) (slice_index_or fabric.sides (channel / count) Bare)

module _ (fabric : FabricOf) (tables : TablesOf) (lanes : LanesOf) (count lid : ℕ) where
  -- at a place, what goes to the LID leaves a switch on a lane with a level, and comes to a port of the next switch
  pub record Leaves (at level : ℕ) (from : LaneChannel) (next : Spot) : Type 0 where
    pub is_at : at ≡ departure_place (switch_count fabric) count level from.switch from.lane
    pub switch_low : from.switch < switch_count fabric
    pub lane_low : from.lane < count
    pub told : tables from.switch lid ≡ Some from.port
    pub leads : side_of fabric from.switch from.port ≡ To next.switch next.port

  -- it goes on from there
  pub record LaneStep (at to one other : ℕ) : Type 0 where
    pub level : ℕ
    pub from : LaneChannel
    pub next : Spot
    pub leaves : Leaves at level from next
    pub port : ℕ
    pub lane : ℕ
    pub after : Spot
    pub goes : lane_hop fabric tables lanes level lid next ≡ On port lane after
    pub is_to : to ≡ departure_place (switch_count fabric) count level next.switch lane
    pub is_one : one ≡ lane_number fabric count from
    pub is_other :
        other ≡ lane_number fabric count (record { switch = next.switch; port = port; lane = lane })

  -- or it stops there
  pub record LaneStops (at : ℕ) : Type 0 where
    pub level : ℕ
    pub from : LaneChannel
    pub next : Spot
    pub leaves : Leaves at level from next
    pub stops : IsLaneStop (lane_hop fabric tables lanes level lid next)

-- the same of the bits of a block
abbrev pub StepsOf : BlockRoutes → ℕ → ℕ → ℕ → ℕ → ℕ → Type 0
StepsOf routes bit = LaneStep routes.routing.fabric.now (tables_of routes.routing.cells.now)
    (lanes_of routes.routing.lanes.now) routes.routing.lanes.now.count (64 * routes.block + bit)

abbrev pub StopsOf : BlockRoutes → ℕ → ℕ → Type 0
StopsOf routes bit = LaneStops routes.routing.fabric.now (tables_of routes.routing.cells.now)
    (lanes_of routes.routing.lanes.now) routes.routing.lanes.now.count (64 * routes.block + bit)

-- a graph has one step more, or has it again
abbrev pub AddsOne : GraphOf → GraphOf → ℕ → ℕ → Type 0
AddsOne old new from to =
    (one other : ℕ) → (LeadsTo new one other ↔ (LeadsTo old one other ⊎ ((one ≡ from) × (other ≡ to))))
