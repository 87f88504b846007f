-- Where routes begin, at gates: ports of switches, each for all end ports whose routes go on the same lanes from there.
use Rattle.std.specs.Prelude.{◌≡◌, ◌<◌, ◌≤◌, ◌⊎◌, ◌+◌, ◌-◌, ℕ, List, Option, Some, None}
use Rattle.std.specs.Prelude.{length, slice_get, slice_index_or, if◌then◌else◌, nat_lt, MatchOption}
use Rattle.fabric_model.specs.declared.node.EndPort.{EndPort}
use Rattle.fabric_model.specs.declared.node.EndPort.TheVariants.{Host, Switch}
use Rattle.fabric_model.specs.declared.node.Spot.{Spot}
use Rattle.fabric_model.specs.Fabric.{FabricOf, switch_count}
use Rattle.fabric_lane_tables.specs.Lanes.{LanesOf, lanes_of}
use Rattle.fabric_model.specs.declared.traffic.Traffic.{Traffic}
use Rattle.fabric_routes.specs.Routes.{IsSource}
use Rattle.fabric_lane_routes.specs.LaneRoutes.{begin_of}
use Rattle.fabric_lane_routes.specs.declared.routing.LaneRouting.{LaneRouting}
use Rattle.fabric_lane_waves.specs.declared.gate.Gates.{Gates}

-- the end port of a place: those of adapters and routers first, then switches; and how many there are
abbrev pub source_at : FabricOf → ℕ → EndPort
source_at fabric place = if nat_lt place (length fabric.cables)
    then Host place
    else Switch (place - length fabric.cables)

abbrev pub source_count : FabricOf → ℕ
source_count fabric = length fabric.cables + switch_count fabric

-- .. and back
abbrev pub place_in : FabricOf → EndPort → Option ℕ
place_in fabric (Host end) = if nat_lt end (length fabric.cables) then Some end else None
place_in fabric (Switch switch) =
    if nat_lt switch (switch_count fabric) then Some (length fabric.cables + switch) else None

-- what comes in by one port of a switch goes on the same lanes as what comes in by another
abbrev pub AreAlike : LanesOf → Spot → Spot → Type 0
AreAlike lanes one other =
    (one.switch ≡ other.switch)
    × ((port level : ℕ) → lanes one.switch one.port port level ≡ lanes other.switch other.port port level)

-- the gate for a port: one from which all goes on the same lanes
pub record IsGateFor (lanes : LanesOf) (spots : List Spot) (start : Spot) (gate : ℕ) : Type 0 where
  pub spot : Spot
  pub stands : slice_get spots gate ≡ Some spot
  pub alike : AreAlike lanes spot start

-- the gate of a source: that for the port at which its routes begin
pub record IsGateOf (fabric : FabricOf) (lanes : LanesOf) (traffic : Traffic) (spots : List Spot) (source : EndPort)
    (gate : ℕ)
    : Type 0 where
  pub sends : IsSource fabric traffic source
  pub start : Spot
  pub begins : begin_of fabric source ≡ Some start
  pub serves : IsGateFor lanes spots start gate

-- of each of the first end ports its gate, if it is a source: gates of switches that there are, no more than end ports
pub record AreGatesBelow (fabric : FabricOf) (lanes : LanesOf) (traffic : Traffic) (count : ℕ) (spots : List Spot)
    (gates : List (Option ℕ))
    : Type 0 where
  pub each :
      (place : ℕ) → place < count
      → MatchOption (slice_index_or gates place None) (IsSource fabric traffic (source_at fabric place) → ⊥)
      (IsGateOf fabric lanes traffic spots (source_at fabric place))
  pub within : (gate : ℕ) (spot : Spot) → slice_get spots gate ≡ Some spot → spot.switch < switch_count fabric
  pub few : length spots ≤ count

-- .. and of all
pub record AreGates (fabric : FabricOf) (lanes : LanesOf) (traffic : Traffic) (spots : List Spot)
    (gates : List (Option ℕ))
    : Type 0 where
  pub size : length gates ≡ source_count fabric
  pub all : AreGatesBelow fabric lanes traffic (source_count fabric) spots gates

-- .. of a routing
abbrev pub AreGatesOn : LaneRouting → Gates → Type 0
AreGatesOn routing gates =
    AreGates routing.fabric.now (lanes_of routing.lanes.now) routing.traffic gates.spots.items gates.gates.items

-- the last gate of each switch, if it has one: one of its ports
abbrev pub AreLastGates : List Spot → List (Option ℕ) → Type 0
AreLastGates spots last =
    (switch gate : ℕ) → slice_index_or last switch None ≡ Some gate
    → (spot : Spot) × (slice_get spots gate ≡ Some spot) × (spot.switch ≡ switch)

-- the ports stand where they stood, and at most one more, of a switch below a number
pub record AreMoreSpots (switches : ℕ) (old new : List Spot) : Type 0 where
  pub kept : (place : ℕ) (spot : Spot) → slice_get old place ≡ Some spot → slice_get new place ≡ Some spot
  pub only :
      (place : ℕ) (spot : Spot) → slice_get new place ≡ Some spot
      → (slice_get old place ≡ Some spot) ⊎ (spot.switch < switches)
  pub few : length new ≤ length old + 1
