-- How routes are counted, LID by LID and end port by end port. But for `place_of` and `IsEndPort` only private
-- functions cite this.
use Rattle.std.specs.Prelude.{◌≡◌, ◌<◌, ◌≤◌, ◌≢◌, ◌+◌, ◌*◌, ◌^◌, ◌⊎◌, ℕ}
use Rattle.std.specs.Prelude.{List, Option, Some, None, length}
use Rattle.fabric_tables.specs.Cells.{TablesOf}
use Rattle.fabric_counts.specs.Counts.{AreCountsOf, IsOf, Route, RouteEnds}
use Rattle.fabric_counts.specs.declared.counts.Counts.{Counts}
use Rattle.fabric_counts.specs.declared.counts.LostRoute.{LostRoute}
use Rattle.fabric_counts.specs.declared.room.Rooms.{Rooms}
use Rattle.fabric_counts.specs.declared.source.Heard.{Heard}
use Rattle.fabric_model.specs.declared.node.EndPort.{EndPort}
use Rattle.fabric_model.specs.declared.node.EndPort.TheVariants.{Host, Switch}
use Rattle.fabric_model.specs.Fabric.{FabricOf, guid_of, switch_count}
use Rattle.fabric_routes.specs.declared.audience.Audience.TheVariants.{Hosts, Everyone}
use Rattle.fabric_routes.specs.declared.hop.Hop.{Hop}
use Rattle.fabric_routes.specs.declared.hop.Outcome.TheVariants.{Arrives}
use Rattle.fabric_model.specs.declared.traffic.Traffic.{Traffic}
use Rattle.fabric_routes.specs.Audience.{IsHeardFrom}
use Rattle.fabric_routes.specs.Counting.{IsCountOf}
use Rattle.fabric_routes.specs.Routes.{EndsAs, IsSource, Sends}
use Rattle.fabric_routes.specs.Waves.{HasBit}

-- the place of an end port: those of adapters and routers first, then switches
abbrev pub place_of : FabricOf → EndPort → ℕ
place_of fabric (Host end) = end
place_of fabric (Switch switch) = length fabric.cables + switch

-- an end port of the fabric
abbrev pub IsEndPort : FabricOf → EndPort → Type 0
IsEndPort fabric (Host end) = end < length fabric.cables
IsEndPort fabric (Switch switch) = switch < switch_count fabric

-- one of the first so many that send
abbrev pub IsSourceUntil : FabricOf → Traffic → ℕ → EndPort → Type 0
IsSourceUntil fabric traffic place source = IsSource fabric traffic source × (place_of fabric source < place)

-- a route to a lesser LID, or to this one from one of the first so many end ports
abbrev pub IsUntil : FabricOf → TablesOf → Traffic → ℕ → ℕ → Route → Type 0
IsUntil fabric tables traffic lid place route =
    IsOf fabric tables traffic route
    × ((route.lid < lid) ⊎ ((route.lid ≡ lid) × (place_of fabric route.source < place)))

-- those before an end port, and those up to it
abbrev pub IsBefore : FabricOf → TablesOf → Traffic → ℕ → EndPort → Route → Type 0
IsBefore fabric tables traffic lid source = IsUntil fabric tables traffic lid (place_of fabric source)

abbrev pub IsUpTo : FabricOf → TablesOf → Traffic → ℕ → EndPort → Route → Type 0
IsUpTo fabric tables traffic lid source = IsUntil fabric tables traffic lid (place_of fabric source + 1)

-- the counts of those, which are not too many
pub record AreCountsUntil (fabric : FabricOf) (tables : TablesOf) (traffic : Traffic) (lid place : ℕ)
    (counts : Counts)
    : Type 0 where
  pub exact : AreCountsOf fabric tables (IsUntil fabric tables traffic lid place) counts
  pub few : counts.routes ≤ lid * 2 ^ 17 + place
  pub few_unowned : counts.unowned ≤ counts.arrived

-- of so many routes that arrive, to one LID, those to a LID that nobody owns: by its owner all, or none
abbrev pub unowned_of : Option EndPort → ℕ → ℕ
unowned_of None routes = routes
unowned_of (Some owner) routes = 0

-- rooms for so many switches
pub record AreRooms (count : ℕ) (rooms : Rooms) : Type 0 where
  pub heights : length rooms.heights.items ≡ count
  pub marks : length rooms.marks.items ≡ count
  pub path : length rooms.path.items ≡ count

-- so many end ports are of each audience
pub record AreHeard (fabric : FabricOf) (heard : Heard) : Type 0 where
  pub hosts : IsCountOf (IsHeardFrom fabric Hosts) heard.hosts
  pub everyone : IsCountOf (IsHeardFrom fabric Everyone) heard.everyone
  pub few_hosts : heard.hosts ≤ 2 ^ 17
  pub few : heard.everyone ≤ 2 ^ 17

-- a route to a LID is to be told in place of the least one so far, if there is one
abbrev pub IsLesser : FabricOf → Option LostRoute → ℕ → EndPort → Type 0
IsLesser fabric None lid source = Unit {0}
IsLesser fabric (Some told) lid source =
    (told.lid ≡ lid) × (guid_of fabric source < guid_of fabric told.source)

-- each route to a LID arrives, and the greatest number of switches is this one
pub record AllArriveWithin (fabric : FabricOf) (tables : TablesOf) (traffic : Traffic) (lid hops : ℕ)
    : Type 0 where
  pub all :
      (source : EndPort) → Sends fabric tables traffic lid source
      → (switches : ℕ) × RouteEnds fabric tables (record { lid = lid; source = source }) (Arrives switches)
      × (switches ≤ hops)
  pub some :
      hops ≢ 0
      → (source : EndPort) × Sends fabric tables traffic lid source
      × RouteEnds fabric tables (record { lid = lid; source = source }) (Arrives hops)

-- each route arrives that begins at one of the first so many switches and has a bit, and the longest goes
-- through so many
pub record AreLongest (hop_at : ℕ → Hop) (words : List ℕ) (bit count hops : ℕ) : Type 0 where
  pub all :
      (at : ℕ) → at < count → HasBit words at bit
      → (switches : ℕ) × EndsAs hop_at at (Arrives switches) × (switches ≤ hops)
  pub some : hops ≢ 0 → (at : ℕ) × HasBit words at bit × EndsAs hop_at at (Arrives hops)
