-- How it is counted how many routes go over each channel. Only private functions and proofs cite this.

use Rattle.std.specs.Prelude.{◌≡◌, ◌≢◌, ◌<◌, ◌≤◌, ◌+◌, ◌*◌, ◌^◌, ◌⊎◌, ℕ, List, Some, length, slice_index, slice_index_or}
use Rattle.fabric_tables.specs.Cells.{TablesOf}
use Rattle.fabric_counts.specs.Counts.{IsOf, Route}
use Rattle.fabric_model.specs.declared.node.EndPort.{EndPort}
use Rattle.fabric_model.specs.Fabric.{FabricOf, start_of, switch_count}
use Rattle.fabric_routes.specs.Counting.{IsCountOf}
use Rattle.fabric_model.specs.declared.traffic.Traffic.TheVariants.{Hosts}
use Rattle.fabric_routes.specs.Found.{number}
use Rattle.fabric_routes.specs.declared.hop.Hop.{Hop}
use Rattle.fabric_routes.specs.declared.hop.Hop.TheVariants.{Arrive}
use Rattle.fabric_routes.specs.Routes.{Channel, ComesBy, IsSource, hop}
use Rattle.fabric_routes.specs.Starts.{IsAmong}
use Rattle.fabric_routes.specs.Trace.{IsReady, hop_to, whole}
use Rattle.fabric_route_command.specs.declared.loads.Loads.{Loads}
use Rattle.fabric_route_command.specs.declared.loads.Rooms.{Rooms}
use Rattle.fabric_route_command.specs.Measured.{ArrivesOver, GoesOver, IsOneArriving}

-- an end port of an adapter or router is cabled to this switch
abbrev pub IsHostAt : FabricOf → ℕ → EndPort → Type 0
IsHostAt fabric switch source = IsSource fabric Hosts source × (start_of fabric source ≡ Some switch)

-- so many of the first ones are cabled to each switch
pub record AreHostsBelow (fabric : FabricOf) (end : ℕ) (hosts : List ℕ) : Type 0 where
  pub size : length hosts ≡ switch_count fabric
  pub each :
      (switch : ℕ) → switch < switch_count fabric
      → IsCountOf (IsAmong fabric end switch) (slice_index hosts switch)
  pub few : (switch : ℕ) → slice_index hosts switch ≤ end

-- so many are cabled to each switch
pub record AreHosts (fabric : FabricOf) (hosts : List ℕ) : Type 0 where
  pub size : length hosts ≡ switch_count fabric
  pub each :
      (switch : ℕ) → switch < switch_count fabric
      → IsCountOf (IsHostAt fabric switch) (slice_index hosts switch)
  pub few : (switch : ℕ) → slice_index hosts switch ≤ 2 ^ 16

-- a port of a switch that there may be
pub record IsPlace (fabric : FabricOf) (channel : Channel) : Type 0 where
  pub switch : channel.switch < switch_count fabric
  pub used : 0 < channel.port
  pub low : channel.port ≤ fabric.most

-- how many routes of a kind go over each channel, and over all together
pub record AreLoads (fabric : FabricOf) (tables : TablesOf) (Is : Route → Channel → Type 0) (loads : Loads)
    : Type 0 where
  pub size : length loads.each.items ≡ switch_count fabric * fabric.most
  pub each :
      (channel : Channel) → IsPlace fabric channel
      → IsCountOf (λ route. GoesOver fabric tables channel route × Is route channel)
      (slice_index loads.each.items (number fabric channel))
  pub all :
      IsCountOf {A = Route × Channel}
      (λ pair. GoesOver fabric tables pair.1 pair.0 × Is pair.0 pair.1) loads.hops
  pub less : (place : ℕ) → slice_index loads.each.items place ≤ loads.hops

-- how many routes of a kind arrive, and over how many links the longest of them goes
pub record AreArrived (fabric : FabricOf) (tables : TablesOf) (Is : Route → Type 0) (loads : Loads)
    : Type 0 where
  pub routes : IsCountOf (λ route. IsOneArriving fabric tables route × Is route) loads.routes
  pub most :
      (route : Route) (links : ℕ)
      → ArrivesOver fabric tables links route → Is route → links ≤ loads.longest
  pub some : loads.longest ≢ 0 → (route : Route) × ArrivesOver fabric tables loads.longest route

-- a route to a LID begins at a switch
abbrev pub IsFrom : FabricOf → TablesOf → (lid start : ℕ) → Route → Type 0
IsFrom fabric tables lid start route =
    IsOf fabric tables Hosts route × (route.lid ≡ lid) × (start_of fabric route.source ≡ Some start)

-- a route to a lesser LID, or one to this LID from one of the first so many switches
abbrev pub IsUntil : FabricOf → (lid start : ℕ) → Route → Type 0
IsUntil fabric lid start route =
    (route.lid < lid)
    ⊎ ((route.lid ≡ lid) × ((switch : ℕ) × (switch < start) × (start_of fabric route.source ≡ Some switch)))

-- one of these, or a route to this LID from this switch that is at a channel after fewer hops than so many
abbrev pub IsAlong : FabricOf → TablesOf → (lid start hops : ℕ) → Route → Channel → Type 0
IsAlong fabric tables lid start hops route channel =
    IsUntil fabric lid start route
    ⊎ (IsFrom fabric tables lid start route
    × ((before : ℕ) × (before < hops) × ComesBy fabric tables lid before start channel.switch))

-- the loads by the first routes, which are not too great
pub record AreLoadsUntil (fabric : FabricOf) (tables : TablesOf) (lid start : ℕ) (loads : Loads)
    : Type 0 where
  pub exact : AreLoads fabric tables (λ route channel. IsUntil fabric lid start route) loads
  pub arrived : AreArrived fabric tables (IsUntil fabric lid start) loads
  pub few : loads.hops ≤ (lid * 2 ^ 14 + start) * 2 ^ 31
  pub few_routes : loads.routes ≤ (lid * 2 ^ 14 + start) * 2 ^ 16

-- the loads by these and by routes to a LID from a switch, on their first hops
pub record AreLoadsAlong (fabric : FabricOf) (tables : TablesOf) (lid start hops : ℕ) (loads : Loads)
    : Type 0 where
  pub exact : AreLoads fabric tables (IsAlong fabric tables lid start hops) loads
  pub arrived : AreArrived fabric tables (IsUntil fabric lid (start + 1)) loads
  pub few : loads.hops ≤ (lid * 2 ^ 14 + start) * 2 ^ 31 + hops * 2 ^ 17
  pub few_routes : loads.routes ≤ (lid * 2 ^ 14 + (start + 1)) * 2 ^ 16

-- rooms for so many switches
pub record AreRooms (count : ℕ) (rooms : Rooms) : Type 0 where
  pub marks : length rooms.marks.items ≡ count
  pub path : length rooms.path.items ≡ count
  pub hops : length rooms.hops.items ≡ count

-- what each switch does with what goes to a LID
pub record AreHops (fabric : FabricOf) (tables : TablesOf) (lid : ℕ) (hops : List Hop) : Type 0 where
  pub size : length hops ≡ switch_count fabric
  pub each :
      (switch : ℕ) → switch < switch_count fabric
      → slice_index_or hops switch Arrive ≡ hop fabric tables switch lid

-- rooms in which it is known how some routes to a LID end
pub record AreReady (fabric : FabricOf) (tables : TablesOf) (lid : ℕ) (rooms : Rooms) : Type 0 where
  pub ready : IsReady (hop_to fabric tables (whole lid)) (switch_count fabric) rooms.marks.items
  pub path : length rooms.path.items ≡ switch_count fabric
  pub hops : AreHops fabric tables lid rooms.hops.items

-- the loads by all routes
pub record AreAllLoads (fabric : FabricOf) (tables : TablesOf) (loads : Loads) : Type 0 where
  pub exact : AreLoads fabric tables (λ route channel. Unit {0}) loads
  pub arrived : AreArrived fabric tables (λ route. Unit {0}) loads
