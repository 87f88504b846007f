-- The verdict on the tables of a fabric with lanes.
use Rattle.std.specs.declared.cmp.Ordering.{Ordering}
use Rattle.std.specs.Ordering.{nat_cmp, ordering_then}
use Rattle.std.specs.Prelude.{◌≡◌, ◌+◌, ◌%◌, ◌/◌, ℕ, List, Option, Some, None, length, map, slice_get, if◌then◌else◌, nat_lt}
use Rattle.common_graph.specs.Cycles.{HasNoCycle, IsLeastCycle, AreRanks}
use Rattle.fabric_tables.specs.Cells.{TablesOf}
use Rattle.fabric_lane_tables.specs.Lanes.{LanesOf}
use Rattle.fabric_lane_tables.specs.PathLevels.{LevelsOf}
use Rattle.fabric_model.specs.declared.node.EndPort.{EndPort}
use Rattle.fabric_model.specs.declared.node.Spot.{Spot}
use Rattle.fabric_model.specs.Fabric.{FabricOf, side_of}
use Rattle.fabric_model.specs.declared.traffic.Traffic.{Traffic}
use Rattle.fabric_verdict.specs.Verdict.{rank_over}
use Rattle.fabric_lane_routes.specs.declared.hop.LaneHop.TheVariants.{Arrive, Discard}
use Rattle.fabric_lane_routes.specs.LaneFound.{IsLaneChannel, IsLeastLaneWitness, lane_number}
use Rattle.fabric_lane_routes.specs.LaneRoutes.{LaneChannel, LaneComesTo, LaneDependsOn, LaneSends, LaneWalksBy}
use Rattle.fabric_lane_routes.specs.LaneRoutes.{begin_of, lane_hop}
use Rattle.fabric_lane_witness.specs.declared.witness.LaneSpot.{LaneSpot}
use Rattle.fabric_lane_witness.specs.Witness.{lane_channel_of}
use Rattle.fabric_lane_verdict.specs.declared.verdict.LaneLoopChannel.{LaneLoopChannel}
use Rattle.fabric_lane_verdict.specs.declared.verdict.LaneVerdict.{LaneVerdict}
use Rattle.fabric_lane_verdict.specs.declared.verdict.LaneVerdict.TheVariants.{Ranks, Cycle}

-- all sixteen levels, for each end port and LID
abbrev pub any_level : LevelsOf
any_level source lid = 65535

-- no route of the traffic comes to a switch that discards it
abbrev pub NoneIsDiscarded : FabricOf → TablesOf → LanesOf → Traffic → LevelsOf → Type 0
NoneIsDiscarded fabric tables lanes traffic levels =
    (lid : ℕ) (source : EndPort) (level : ℕ) (at : Spot)
    → LaneComesTo fabric tables lanes traffic levels lid source level at
    → lane_hop fabric tables lanes level lid at ≡ Discard → ⊥

-- the route of an end port to a LID with a level goes by so many links between switches, and arrives
pub record LaneArrivesBy (fabric : FabricOf) (tables : TablesOf) (lanes : LanesOf) (lid : ℕ) (source : EndPort)
    (level links : ℕ)
    : Type 0 where
  pub start : Spot
  pub begins : begin_of fabric source ≡ Some start
  pub at : Spot
  pub comes : LaneWalksBy (lane_hop fabric tables lanes level lid) links start at
  pub arrives : lane_hop fabric tables lanes level lid at ≡ Arrive

abbrev pub LaneAllArrive : FabricOf → TablesOf → LanesOf → Traffic → LevelsOf → Type 0
LaneAllArrive fabric tables lanes traffic levels =
    (lid : ℕ) (source : EndPort) (level : ℕ) → LaneSends fabric tables traffic levels lid source level
    → (links : ℕ) × LaneArrivesBy fabric tables lanes lid source level links

-- by switch, then by port, then by lane
abbrev pub lane_channel_cmp : LaneChannel → LaneChannel → Ordering
lane_channel_cmp one other =
    ordering_then (ordering_then (nat_cmp one.switch other.switch) (nat_cmp one.port other.port))
    (nat_cmp one.lane other.lane)

-- the rank that a list has for a channel, by its number; a port that does not lead to a switch is no channel, and
-- there are so many lanes
abbrev pub lane_rank_in : FabricOf → ℕ → List ℕ → LaneChannel → Option ℕ
lane_rank_in fabric count ranks channel = rank_over (side_of fabric channel.switch channel.port)
    (if nat_lt channel.lane count then slice_get ranks (lane_number fabric count channel) else None)

module _ (fabric : FabricOf) (tables : TablesOf) (lanes : LanesOf) (traffic : Traffic) (levels : LevelsOf) where
  -- there is no credit loop, and these are the ranks of the channels
  pub record LaneHasRanks (count : ℕ) (ranks : List ℕ) : Type 0 where
    pub no_cycle : HasNoCycle (LaneDependsOn fabric tables lanes traffic levels)
    pub ranked :
        AreRanks (IsLaneChannel fabric count) (LaneDependsOn fabric tables lanes traffic levels)
        (lane_rank_in fabric count ranks)

  -- the tables pass: there is no credit loop, and each route of the traffic arrives
  pub record LanePasses (count : ℕ) (ranks : List ℕ) : Type 0 where
    pub ranked : LaneHasRanks count ranks
    pub arrived : LaneAllArrive fabric tables lanes traffic levels

-- the channel of a place, if switches have at most so many ports, and there are so many lanes
abbrev pub lane_spot_at : ℕ → ℕ → ℕ → LaneSpot
lane_spot_at most count place =
    record { switch = place / count / most; port = place / count % most + 1; lane = place % count }

abbrev pub lane_spots_in : List LaneLoopChannel → List LaneSpot
lane_spots_in = map (λ one. one.channel)

module _ (fabric : FabricOf) (tables : TablesOf) (lanes : LanesOf) (traffic : Traffic) (levels : LevelsOf) where
  -- the least credit loop
  abbrev pub IsLeastLaneLoop : List LaneSpot → Type 0
  IsLeastLaneLoop spots =
      IsLeastCycle lane_channel_cmp (LaneDependsOn fabric tables lanes traffic levels) (map lane_channel_of spots)

  -- the least route that takes a channel and then another one is told with it
  abbrev pub IsLaneWitnessed : LaneLoopChannel → LaneSpot → Type 0
  IsLaneWitnessed one next =
      IsLeastLaneWitness fabric tables lanes traffic levels (lane_channel_of one.channel) (lane_channel_of next)
      one.witness.lid one.witness.source one.witness.level

  -- of channels, each with the next one of a list, and the last of the list with its first
  abbrev pub AreLaneWitnessed : List LaneSpot → List LaneLoopChannel → Type 0
  AreLaneWitnessed spots found =
      (place : ℕ) (one : LaneLoopChannel) (next : LaneSpot) → slice_get found place ≡ Some one
      → slice_get spots ((place + 1) % length spots) ≡ Some next → IsLaneWitnessed one next

  -- the least credit loop, and the routes that make it
  pub record LaneCycleIs (found : List LaneLoopChannel) : Type 0 where
    pub least : IsLeastLaneLoop (lane_spots_in found)
    pub witnesses : AreLaneWitnessed (lane_spots_in found) found

  -- the ranks of the channels on so many lanes, or the least credit loop
  abbrev pub IsLaneVerdict : ℕ → LaneVerdict → Type 0
  IsLaneVerdict count (Ranks ranks) = LaneHasRanks fabric tables lanes traffic levels count ranks.items
  IsLaneVerdict count (Cycle channels) = LaneCycleIs channels.items
