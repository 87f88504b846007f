-- How many routes with a service level there are, how many of them arrive, and how many are lost by each
-- cause.
use Rattle.std.specs.Prelude.{◌≡◌, ◌≢◌, ◌≤◌, ◌+◌, ℕ, Some, None, MatchOption}
use Rattle.fabric_tables.specs.Cells.{TablesOf}
use Rattle.fabric_counts.specs.Counts.{Route}
use Rattle.fabric_lane_counts.specs.declared.counts.LaneCounts.{LaneCounts}
use Rattle.fabric_lane_counts.specs.declared.counts.LaneLoss.{LaneLoss}
use Rattle.fabric_lane_counts.specs.declared.counts.LaneLosses.{LaneLosses}
use Rattle.fabric_lane_counts.specs.declared.counts.LostLaneRoute.{LostLaneRoute}
use Rattle.fabric_lane_routes.specs.declared.hop.LaneHop.{LaneHop}
use Rattle.fabric_lane_routes.specs.declared.hop.LaneHop.TheVariants.{Discard, Stop}
use Rattle.fabric_lane_routes.specs.declared.hop.LaneOutcome.{LaneOutcome}
use Rattle.fabric_lane_routes.specs.declared.hop.LaneOutcome.TheVariants.{Arrives, Stops, Discards, Loops}
use Rattle.fabric_lane_routes.specs.LaneRoutes.{LaneEndsAs, LaneSends, LaneWalksBy, begin_of, lane_hop}
use Rattle.fabric_model.specs.declared.node.EndPort.{EndPort}
use Rattle.fabric_model.specs.declared.node.Spot.{Spot}
use Rattle.fabric_model.specs.Fabric.{FabricOf, guid_of, owner_of}
use Rattle.fabric_routes.specs.Counting.{IsCountOf}
use Rattle.fabric_routes.specs.declared.hop.Cause.TheVariants.{Missing, Dead, Wrong}
use Rattle.fabric_model.specs.declared.traffic.Traffic.{Traffic}
use Rattle.fabric_routes.specs.Routes.{Sends}
use Rattle.fabric_lane_tables.specs.Lanes.{LanesOf}
use Rattle.fabric_lane_tables.specs.PathLevels.{HasLevel, LevelsOf}

-- a route: from an end port to a LID, with a level
pub record LaneRoute : Type 0 where
  pub lid : ℕ
  pub source : EndPort
  pub level : ℕ

-- a route of the traffic
abbrev pub IsLaneRouteOf : FabricOf → TablesOf → Traffic → LevelsOf → LaneRoute → Type 0
IsLaneRouteOf fabric tables traffic levels route =
    LaneSends fabric tables traffic levels route.lid route.source route.level

-- an end port sends to a LID, and has no level for it
pub record IsSilent (fabric : FabricOf) (tables : TablesOf) (traffic : Traffic) (levels : LevelsOf) (pair : Route)
    : Type 0 where
  pub sends : Sends fabric tables traffic pair.lid pair.source
  pub none : (level : ℕ) → HasLevel levels pair.source pair.lid level → ⊥

-- a switch to which a route comes by arbitrarily many hops
abbrev pub LaneComesAgain : (Spot → LaneHop) → Spot → ℕ → Type 0
LaneComesAgain hop_at start switch =
    (most : ℕ)
    → (hops : ℕ) × (most ≤ hops) × (at : Spot) × LaneWalksBy hop_at hops start at × (at.switch ≡ switch)

-- the route comes to this switch, which does so with it
abbrev pub LaneEndsAt : (Spot → LaneHop) → Spot → LaneHop → ℕ → Type 0
LaneEndsAt hop_at start does switch =
    (hops : ℕ) × (at : Spot) × LaneWalksBy hop_at hops start at × (hop_at at ≡ does) × (at.switch ≡ switch)

-- it does not arrive
abbrev pub IsLaneLost : LaneOutcome → Type 0
IsLaneLost (Arrives switches) = ⊥
IsLaneLost (Stops cause) = Unit {0}
IsLaneLost Discards = Unit {0}
IsLaneLost Loops = Unit {0}

-- where it is lost: the switch at which it stops or is discarded, or the least one by which it comes again and
-- again
abbrev pub IsLaneLostAt : (Spot → LaneHop) → Spot → LaneOutcome → ℕ → Type 0
IsLaneLostAt hop_at start (Arrives switches) switch = ⊥
IsLaneLostAt hop_at start (Stops cause) switch = LaneEndsAt hop_at start (Stop cause) switch
IsLaneLostAt hop_at start Discards switch = LaneEndsAt hop_at start Discard switch
IsLaneLostAt hop_at start Loops switch =
    LaneComesAgain hop_at start switch
    × ((other : ℕ) → LaneComesAgain hop_at start other → switch ≤ other)

abbrev pub lane_route_of : LostLaneRoute → LaneRoute
lane_route_of found = record { lid = found.lid; source = found.source; level = found.level }

-- all that do not arrive
abbrev pub lane_sum_of : LaneLosses → ℕ
lane_sum_of lost =
    lost.missing.count + lost.dead.count + lost.wrong.count + lost.discard.count + lost.looping.count

module _ (fabric : FabricOf) (tables : TablesOf) (lanes : LanesOf) where
  -- what each switch does with what goes by a route
  abbrev pub hop_of : LaneRoute → Spot → LaneHop
  hop_of route = lane_hop fabric tables lanes route.level route.lid

  -- a route ends so, from the port on by which it begins
  pub record LaneRouteEnds (route : LaneRoute) (outcome : LaneOutcome) : Type 0 where
    pub start : Spot
    pub begins : begin_of fabric route.source ≡ Some start
    pub ends : LaneEndsAs (hop_of route) start outcome

  -- it is lost so, and there
  pub record LaneRouteIsLost (route : LaneRoute) (outcome : LaneOutcome) (at : ℕ) : Type 0 where
    pub start : Spot
    pub begins : begin_of fabric route.source ≡ Some start
    pub lost : IsLaneLostAt (hop_of route) start outcome at

-- Of some routes ..
module _ (fabric : FabricOf) (tables : TablesOf) (lanes : LanesOf) (Is : LaneRoute → Type 0) where
  -- .. one ends so
  abbrev pub IsOneThat : LaneOutcome → LaneRoute → Type 0
  IsOneThat outcome route = Is route × LaneRouteEnds fabric tables lanes route outcome

  -- .. one arrives
  abbrev pub IsOneThatArrives : LaneRoute → Type 0
  IsOneThatArrives route = (switches : ℕ) × IsOneThat (Arrives switches) route

  -- .. one arrives that goes to a LID that nobody owns
  abbrev pub IsOneToNobody : LaneRoute → Type 0
  IsOneToNobody route = IsOneThatArrives route × (owner_of fabric route.lid ≡ None)

  -- .. those that arrive go through no more switches than so many, and one through so many: 0 if none arrives
  pub record AreMostHops (hops : ℕ) : Type 0 where
    pub most : (route : LaneRoute) (switches : ℕ) → IsOneThat (Arrives switches) route → switches ≤ hops
    pub some : hops ≢ 0 → (route : LaneRoute) × IsOneThat (Arrives hops) route

  -- .. of those that end so this one goes to the least LID; of those to it from the least GUID; of those from
  -- there with the least level
  pub record IsLeastLost (outcome : LaneOutcome) (found : LostLaneRoute) : Type 0 where
    pub is : IsOneThat outcome (lane_route_of found)
    pub at : LaneRouteIsLost fabric tables lanes (lane_route_of found) outcome found.at
    pub least : (other : LaneRoute) → IsOneThat outcome other → found.lid ≤ other.lid
    pub first :
        (other : LaneRoute) → IsOneThat outcome other → other.lid ≡ found.lid
        → guid_of fabric found.source ≤ guid_of fabric other.source
    pub lowest :
        (other : LaneRoute) → IsOneThat outcome other → other.lid ≡ found.lid → other.source ≡ found.source
        → found.level ≤ other.level

  -- .. so many end so, and this is the least of them, if there is one
  pub record IsLoss (outcome : LaneOutcome) (loss : LaneLoss) : Type 0 where
    pub count : IsCountOf (IsOneThat outcome) loss.count
    pub least :
        MatchOption loss.least ((route : LaneRoute) → IsOneThat outcome route → ⊥) (IsLeastLost outcome)

  -- .. these are the losses by each cause
  pub record AreLosses (lost : LaneLosses) : Type 0 where
    pub missing : IsLoss (Stops Missing) lost.missing
    pub dead : IsLoss (Stops Dead) lost.dead
    pub wrong : IsLoss (Stops Wrong) lost.wrong
    pub discard : IsLoss Discards lost.discard
    pub looping : IsLoss Loops lost.looping

  -- .. these are the counts
  pub record AreCountsOf (counts : LaneCounts) : Type 0 where
    pub routes : IsCountOf Is counts.routes
    pub arrived : IsCountOf IsOneThatArrives counts.arrived
    pub unowned : IsCountOf IsOneToNobody counts.unowned
    pub hops : AreMostHops counts.hops
    pub lost : AreLosses counts.lost
    pub all : counts.routes ≡ counts.arrived + lane_sum_of counts.lost

-- the counts of the routes of a traffic, each level a route of its own, and of the pairs that have none
pub record AreLaneCounts (fabric : FabricOf) (tables : TablesOf) (lanes : LanesOf) (traffic : Traffic)
    (levels : LevelsOf) (counts : LaneCounts)
    : Type 0 where
  pub of : AreCountsOf fabric tables lanes (IsLaneRouteOf fabric tables traffic levels) counts
  pub silent : IsCountOf (IsSilent fabric tables traffic levels) counts.silent
