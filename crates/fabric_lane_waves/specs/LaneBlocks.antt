-- Where the routes to the LIDs of a block begin, and what is found of them.
use Rattle.std.specs.Prelude.{◌≡◌, ◌<◌, ◌≤◌, ◌⊎◌, ◌↔◌, ◌+◌, ◌*◌, ℕ, Bool, true, List, Option, Some, None}
use Rattle.std.specs.Prelude.{length, slice_get, slice_index_or}
use Rattle.std.specs.Int.{bit_at}
use Rattle.common_graph.specs.Graph.{GraphOf, LeadsTo}
use Rattle.fabric_tables.specs.Cells.{TablesOf, tables_of}
use Rattle.fabric_lane_tables.specs.Lanes.{LanesOf, lanes_of}
use Rattle.fabric_lane_tables.specs.Levels.{levels_of}
use Rattle.fabric_lane_tables.specs.PathLevels.{AreLevelsBelow, LevelsOf}
use Rattle.fabric_model.specs.declared.node.EndPort.{EndPort}
use Rattle.fabric_model.specs.declared.node.Spot.{Spot}
use Rattle.fabric_model.specs.Fabric.{FabricOf, owner_of, switch_count}
use Rattle.fabric_model.specs.declared.traffic.Traffic.{Traffic}
use Rattle.fabric_routes.specs.declared.audience.Targets.{Targets}
use Rattle.fabric_routes.specs.Audience.{AreTargets}
use Rattle.fabric_routes.specs.Routes.{Sends}
use Rattle.fabric_routes.specs.Waves.{HasBit}
use Rattle.fabric_lane_routes.specs.declared.hop.LaneHop.TheVariants.{On}
use Rattle.fabric_lane_routes.specs.LaneFound.{IsLaneChannel, lane_number}
use Rattle.fabric_lane_routes.specs.LaneRoutes.{IsLaneStop, IsLaneStopped, LaneChannel, LaneDependsOn, LaneSends, LaneTakes}
use Rattle.fabric_lane_routes.specs.LaneRoutes.{begin_of, lane_hop}
use Rattle.fabric_lane_routes.specs.declared.routing.LaneRouting.{LaneRouting}
use Rattle.fabric_lane_waves.specs.declared.block.BlockRoutes.{BlockRoutes}
use Rattle.fabric_lane_waves.specs.declared.gate.Gates.{Gates}
use Rattle.fabric_lane_waves.specs.declared.room.Rooms.{Rooms}
use Rattle.fabric_lane_waves.specs.LaneGates.{source_at, source_count}
use Rattle.fabric_lane_waves.specs.LaneSteps.{departure_place, place_count}

-- the LIDs of a block that each end port owns
abbrev pub AreOwned : FabricOf → ℕ → List ℕ → Type 0
AreOwned fabric block words =
    (place bit : ℕ) → place < source_count fabric → bit < 64
    → (HasBit words place bit ↔ (owner_of fabric (64 * block + bit) ≡ Some (source_at fabric place)))

-- an end port of the gate sends to the LID with the level
pub record IsSentFrom (fabric : FabricOf) (tables : TablesOf) (traffic : Traffic) (levels : LevelsOf)
    (gates : List (Option ℕ)) (gate lid level : ℕ)
    : Type 0 where
  pub place : ℕ
  pub low : place < length gates
  pub is : slice_index_or gates place None ≡ Some gate
  pub sends : LaneSends fabric tables traffic levels lid (source_at fabric place) level

-- for each gate and level, the LIDs of a block to which some end port of the gate sends
abbrev pub AreSent :
    FabricOf → TablesOf → Traffic → LevelsOf → (gates : List (Option ℕ)) → (count block top : ℕ) → List ℕ → Type 0
AreSent fabric tables traffic levels gates count block top words =
    (gate level bit : ℕ) → gate < count → level < top → bit < 64
    → (HasBit words (gate * top + level) bit ↔ IsSentFrom fabric tables traffic levels gates gate (64 * block + bit) level)

-- an end port before that of a place has this gate, and sends to the LID of a bit with the same levels as
-- that
pub record StandsAlready (fabric : FabricOf) (tables : TablesOf) (traffic : Traffic) (levels : LevelsOf) (block : ℕ)
    (gates : List (Option ℕ)) (place gate bit : ℕ)
    : Type 0 where
  pub before : ℕ
  pub less : before < place
  pub same : slice_index_or gates before None ≡ Some gate
  pub sends : Sends fabric tables traffic (64 * block + bit) (source_at fabric before)
  pub levels_are : levels (source_at fabric place) (64 * block + bit) ≡ levels (source_at fabric before) (64 * block + bit)

-- .. by routes to the LIDs of a block
abbrev pub StandsOf : BlockRoutes → List (Option ℕ) → (place gate bit : ℕ) → Type 0
StandsOf routes = StandsAlready routes.routing.fabric.now (tables_of routes.routing.cells.now) routes.routing.traffic
    (levels_of routes.routing.levels.now) routes.block

-- the LIDs of a block by who sends to them
abbrev pub AreTargetsOf : BlockRoutes → Targets → Type 0
AreTargetsOf routes =
    AreTargets routes.routing.fabric.now (tables_of routes.routing.cells.now) routes.routing.traffic routes.block

-- just to the LIDs of these bits the end port of a place sends
abbrev pub IsSentBy : BlockRoutes → (place word : ℕ) → Type 0
IsSentBy routes place word =
    (bit : ℕ)
    → ((bit_at word bit ≡ 1) ↔ ((bit < 64) × Sends routes.routing.fabric.now (tables_of routes.routing.cells.now) routes.routing.traffic (64 * routes.block + bit) (source_at routes.routing.fabric.now place)))

-- The first hops of routes are taken, those from the triples of a kind of place, level and bit: each shows the bit at the
-- place of what goes out of the switch; and it is told whether something stops there.
pub record AreBegunBy (fabric : FabricOf) (tables : TablesOf) (lanes : LanesOf) (count block : ℕ)
    (Kind : Spot → ℕ → ℕ → Type 0) (old new : List ℕ) (had told : Bool)
    : Type 0 where
  pub seen :
      (place bit : ℕ)
      → (HasBit new place bit ↔ (HasBit old place bit ⊎ ((spot : Spot) × (level port lane : ℕ) × (next : Spot) × Kind spot level bit × (lane_hop fabric tables lanes level (64 * block + bit) spot ≡ On port lane next) × (place ≡ departure_place (switch_count fabric) count level spot.switch lane))))
  pub stopped :
      (told ≡ true) ↔ ((had ≡ true) ⊎ ((spot : Spot) × (level bit : ℕ) × Kind spot level bit × IsLaneStop (lane_hop fabric tables lanes level (64 * block + bit) spot)))
  pub size : length new ≡ length old

-- .. to the LIDs of a block
abbrev pub AreBegunOf : BlockRoutes → (Spot → ℕ → ℕ → Type 0) → List ℕ → List ℕ → Bool → Bool → Type 0
AreBegunOf routes = AreBegunBy routes.routing.fabric.now (tables_of routes.routing.cells.now)
    (lanes_of routes.routing.lanes.now) routes.routing.lanes.now.count routes.block

module _ (fabric : FabricOf) (tables : TablesOf) (lanes : LanesOf) (count : ℕ) (traffic : Traffic) (levels : LevelsOf) where
  -- the route of an end port to a LID with a level begins, and leaves its first switch at this place
  pub record BeginsAt (lid at : ℕ) : Type 0 where
    pub source : EndPort
    pub level : ℕ
    pub sends : LaneSends fabric tables traffic levels lid source level
    pub start : Spot
    pub begins : begin_of fabric source ≡ Some start
    pub port : ℕ
    pub lane : ℕ
    pub next : Spot
    pub goes : lane_hop fabric tables lanes level lid start ≡ On port lane next
    pub is_at : at ≡ departure_place (switch_count fabric) count level start.switch lane

  -- .. or stops at its first switch
  pub record StopsAtFirst (lid : ℕ) : Type 0 where
    pub source : EndPort
    pub level : ℕ
    pub sends : LaneSends fabric tables traffic levels lid source level
    pub start : Spot
    pub begins : begin_of fabric source ≡ Some start
    pub stops : IsLaneStop (lane_hop fabric tables lanes level lid start)

  -- the routes to the LIDs of a block have begun
  pub record AreBegun (block : ℕ) (words : List ℕ) (had told : Bool) : Type 0 where
    pub seen : (place bit : ℕ) → bit < 64 → (HasBit words place bit ↔ BeginsAt (64 * block + bit) place)
    pub stopped : (told ≡ true) ↔ ((had ≡ true) ⊎ ((bit : ℕ) × (bit < 64) × StopsAtFirst (64 * block + bit)))

  -- two channels, by their numbers, that the route of an end port takes one after the other
  pub record TakesLaneNumbers (lid one other : ℕ) : Type 0 where
    pub source : EndPort
    pub level : ℕ
    pub channel : LaneChannel
    pub next : LaneChannel
    pub takes : LaneTakes fabric tables lanes traffic levels lid source level channel next
    pub is_one : one ≡ lane_number fabric count channel
    pub is_other : other ≡ lane_number fabric count next

  -- the route of some end port to the LID, with some level, stops
  abbrev pub SomeIsLaneStoppedTo : ℕ → Type 0
  SomeIsLaneStoppedTo lid =
      (source : EndPort) × ((level : ℕ) × IsLaneStopped fabric tables lanes traffic levels lid source level)

  -- The waves over a block have run: just the dependencies of its routes were added, and it is told whether one stops.
  pub record IsLaneWaved (block : ℕ) (old new : GraphOf) (had told : Bool) : Type 0 where
    pub leads :
        (one other : ℕ)
        → (LeadsTo new one other ↔ (LeadsTo old one other ⊎ ((bit : ℕ) × (bit < 64) × TakesLaneNumbers (64 * block + bit) one other)))
    pub stopped :
        (told ≡ true) ↔ ((had ≡ true) ⊎ ((bit : ℕ) × (bit < 64) × SomeIsLaneStoppedTo (64 * block + bit)))
    pub wide : new.wide ≡ old.wide
    pub bases : new.bases ≡ old.bases

  -- The same of the LIDs below a number, and of all.
  pub record AreLaneFoundBelow (end : ℕ) (old new : GraphOf) (told : Bool) : Type 0 where
    pub leads :
        (one other : ℕ)
        → (LeadsTo new one other ↔ (LeadsTo old one other ⊎ ((lid : ℕ) × (lid < end) × TakesLaneNumbers lid one other)))
    pub stopped : (told ≡ true) ↔ ((lid : ℕ) × (lid < end) × SomeIsLaneStoppedTo lid)
    pub wide : new.wide ≡ old.wide
    pub bases : new.bases ≡ old.bases

  -- The graph has the dependencies of the channels, each and no other.
  pub record AreLaneDependencies (graph : GraphOf) : Type 0 where
    pub nodes : length graph.bases ≡ switch_count fabric * fabric.most * count
    pub exact :
        (channel next : LaneChannel) → IsLaneChannel fabric count channel → IsLaneChannel fabric count next
        → (LeadsTo graph (lane_number fabric count channel) (lane_number fabric count next) ↔ LaneDependsOn fabric tables lanes traffic levels channel next)
    pub only :
        (one other : ℕ) → LeadsTo graph one other
        → (channel next : LaneChannel) × IsLaneChannel fabric count channel × IsLaneChannel fabric count next
        × (one ≡ lane_number fabric count channel) × (other ≡ lane_number fabric count next)

-- the same of a block, and of the LIDs below a number, by a routing
abbrev pub IsWavedOf : BlockRoutes → GraphOf → GraphOf → Bool → Bool → Type 0
IsWavedOf routes = IsLaneWaved routes.routing.fabric.now (tables_of routes.routing.cells.now)
    (lanes_of routes.routing.lanes.now) routes.routing.lanes.now.count routes.routing.traffic
    (levels_of routes.routing.levels.now) routes.block

abbrev pub AreFoundBelow : LaneRouting → ℕ → GraphOf → GraphOf → Bool → Type 0
AreFoundBelow routing = AreLaneFoundBelow routing.fabric.now (tables_of routing.cells.now)
    (lanes_of routing.lanes.now) routing.lanes.now.count routing.traffic (levels_of routing.levels.now)

-- rooms for the end ports, the gates, the levels and the departures of a routing
pub record AreRooms (routing : LaneRouting) (gates : Gates) (rooms : Rooms) : Type 0 where
  pub few : rooms.top ≤ 16
  pub top : AreLevelsBelow (levels_of routing.levels.now) rooms.top
  pub owned : length rooms.owned.items ≡ source_count routing.fabric.now
  pub sent : length rooms.sent.items ≡ length gates.spots.items * rooms.top
  pub seen : length rooms.seen.items ≡ place_count routing rooms.top
  pub done : length rooms.done.items ≡ length rooms.seen.items

-- words with more bits
abbrev pub AreSetBy : (old new : List ℕ) → (Kind : ℕ → ℕ → Type 0) → Type 0
AreSetBy old new Kind =
    (length new ≡ length old) × ((place bit : ℕ) → (HasBit new place bit ↔ (HasBit old place bit ⊎ Kind place bit)))

-- one first hop: of a place, a level and a bit
abbrev pub IsFirstHop : Spot → ℕ → ℕ → Spot → ℕ → ℕ → Type 0
IsFirstHop spot level bit at with other = (at ≡ spot) × (with ≡ level) × (other ≡ bit)

-- those of a gate, by its words, one for each level
abbrev pub IsOfGate : Spot → List ℕ → Spot → ℕ → ℕ → Type 0
IsOfGate spot words at level bit = (at ≡ spot) × (level < length words) × (bit < 64) × HasBit words level bit

-- .. and of all gates, each with so many
abbrev pub IsOfGates : List Spot → List ℕ → (top : ℕ) → Spot → ℕ → ℕ → Type 0
IsOfGates spots sent top at level bit =
    (gate : ℕ) × (slice_get spots gate ≡ Some at) × (level < top) × (bit < 64) × HasBit sent (gate * top + level) bit
