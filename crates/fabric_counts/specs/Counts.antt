-- How many routes there are, how many of them arrive, and how many are lost by each cause.
use Rattle.std.specs.Prelude.{◌≡◌, ◌≢◌, ◌≤◌, ◌+◌, ℕ, Some, None, MatchOption}
use Rattle.fabric_tables.specs.Cells.{TablesOf}
use Rattle.fabric_counts.specs.declared.counts.Counts.{Counts}
use Rattle.fabric_counts.specs.declared.counts.Loss.{Loss}
use Rattle.fabric_counts.specs.declared.counts.Losses.{Losses}
use Rattle.fabric_counts.specs.declared.counts.LostRoute.{LostRoute}
use Rattle.fabric_model.specs.declared.node.EndPort.{EndPort}
use Rattle.fabric_model.specs.Fabric.{FabricOf, guid_of, owner_of, start_of}
use Rattle.fabric_routes.specs.declared.hop.Cause.TheVariants.{Missing, Dead, Wrong}
use Rattle.fabric_routes.specs.declared.hop.Hop.{Hop}
use Rattle.fabric_routes.specs.declared.hop.Hop.TheVariants.{Stop}
use Rattle.fabric_routes.specs.declared.hop.Outcome.{Outcome}
use Rattle.fabric_routes.specs.declared.hop.Outcome.TheVariants.{Arrives, Stops, Loops}
use Rattle.fabric_model.specs.declared.traffic.Traffic.{Traffic}
use Rattle.fabric_routes.specs.Counting.{IsCountOf}
use Rattle.fabric_routes.specs.Routes.{EndsAs, Sends, WalksBy, hop}

-- a route: from an end port to a LID
pub record Route : Type 0 where
  pub lid : ℕ
  pub source : EndPort

-- a route of the traffic
abbrev pub IsOf : FabricOf → TablesOf → Traffic → Route → Type 0
IsOf fabric tables traffic route = Sends fabric tables traffic route.lid route.source

-- what each switch does with what goes to a LID
abbrev pub hop_for : FabricOf → TablesOf → ℕ → ℕ → Hop
hop_for fabric tables lid at = hop fabric tables at lid

-- a route ends so, from the switch of its end port on
pub record RouteEnds (fabric : FabricOf) (tables : TablesOf) (route : Route) (outcome : Outcome)
    : Type 0 where
  pub start : ℕ
  pub begins : start_of fabric route.source ≡ Some start
  pub ends : EndsAs (hop_for fabric tables route.lid) start outcome

-- a switch to which a route comes by arbitrarily many hops
abbrev pub ComesAgain : (ℕ → Hop) → ℕ → ℕ → Type 0
ComesAgain hop_at start at = (most : ℕ) → (hops : ℕ) × (most ≤ hops) × WalksBy hop_at hops start at

-- it does not arrive
abbrev pub IsLost : Outcome → Type 0
IsLost (Arrives switches) = ⊥
IsLost (Stops cause) = Unit {0}
IsLost Loops = Unit {0}

-- where it is lost: the switch at which it stops, or the least one by which it comes again and again
abbrev pub IsLostAt : (ℕ → Hop) → ℕ → Outcome → ℕ → Type 0
IsLostAt hop_at start (Arrives switches) at = ⊥
IsLostAt hop_at start (Stops cause) at =
    ((hops : ℕ) × WalksBy hop_at hops start at) × (hop_at at ≡ Stop cause)
IsLostAt hop_at start Loops at =
    ComesAgain hop_at start at × ((other : ℕ) → ComesAgain hop_at start other → at ≤ other)

-- it is lost so, and there
pub record RouteIsLost (fabric : FabricOf) (tables : TablesOf) (route : Route) (outcome : Outcome) (at : ℕ)
    : Type 0 where
  pub start : ℕ
  pub begins : start_of fabric route.source ≡ Some start
  pub lost : IsLostAt (hop_for fabric tables route.lid) start outcome at

abbrev pub route_of : LostRoute → Route
route_of found = record { lid = found.lid; source = found.source }

-- all that do not arrive
abbrev pub sum_of : Losses → ℕ
sum_of lost = lost.missing.count + lost.dead.count + lost.wrong.count + lost.looping.count

-- Of some routes ..
module _ (fabric : FabricOf) (tables : TablesOf) (Is : Route → Type 0) where
  -- .. one ends so
  abbrev pub IsOneThat : Outcome → Route → Type 0
  IsOneThat outcome route = Is route × RouteEnds fabric tables route outcome

  -- .. one arrives
  abbrev pub IsOneThatArrives : Route → Type 0
  IsOneThatArrives route = (switches : ℕ) × IsOneThat (Arrives switches) route

  -- .. one arrives, and nobody owns its LID
  abbrev pub IsOneToNobody : Route → Type 0
  IsOneToNobody route = IsOneThatArrives route × (owner_of fabric route.lid ≡ None)

  -- .. those that arrive go through no more switches than so many, and one through so many: 0 if none arrives
  pub record AreMostHops (hops : ℕ) : Type 0 where
    pub most : (route : Route) (switches : ℕ) → IsOneThat (Arrives switches) route → switches ≤ hops
    pub some : hops ≢ 0 → (route : Route) × IsOneThat (Arrives hops) route

  -- .. of those that end so this one goes to the least LID, and of those to it from the least GUID
  pub record IsLeastLost (outcome : Outcome) (found : LostRoute) : Type 0 where
    pub is : IsOneThat outcome (route_of found)
    pub at : RouteIsLost fabric tables (route_of found) outcome found.at
    pub least : (other : Route) → IsOneThat outcome other → found.lid ≤ other.lid
    pub first :
        (other : Route) → IsOneThat outcome other → other.lid ≡ found.lid
        → guid_of fabric found.source ≤ guid_of fabric other.source

  -- .. so many end so, and this is the least of them, if there is one
  pub record IsLoss (outcome : Outcome) (loss : Loss) : Type 0 where
    pub count : IsCountOf (IsOneThat outcome) loss.count
    pub least : MatchOption loss.least ((route : Route) → IsOneThat outcome route → ⊥) (IsLeastLost outcome)

  -- .. these are the losses by each cause
  pub record AreLosses (lost : Losses) : Type 0 where
    pub missing : IsLoss (Stops Missing) lost.missing
    pub dead : IsLoss (Stops Dead) lost.dead
    pub wrong : IsLoss (Stops Wrong) lost.wrong
    pub looping : IsLoss Loops lost.looping

  -- .. these are the counts
  pub record AreCountsOf (counts : Counts) : Type 0 where
    pub routes : IsCountOf Is counts.routes
    pub arrived : IsCountOf IsOneThatArrives counts.arrived
    pub unowned : IsCountOf IsOneToNobody counts.unowned
    pub hops : AreMostHops counts.hops
    pub lost : AreLosses counts.lost
    pub all : counts.routes ≡ counts.arrived + sum_of counts.lost

-- the counts of the routes of a traffic
abbrev pub AreCounts : FabricOf → TablesOf → Traffic → Counts → Type 0
AreCounts fabric tables traffic = AreCountsOf fabric tables (IsOf fabric tables traffic)
