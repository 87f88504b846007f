-- Routes of which none is discarded end as on one lane.
use Rattle.std.proofs.Common.{◌≡◌, sym, subst, ℕ, Some}
use Rattle.std.specs.Int.{bit_at}
use Rattle.fabric_tables.specs.Cells.{TablesOf}
use Rattle.fabric_counts.specs.Counts.{IsLostAt, RouteEnds, RouteIsLost, hop_for}
use Rattle.fabric_lane_counts.specs.Keep.{IsKept}
use Rattle.fabric_lane_counts.specs.LaneCounts.{IsLaneRouteOf, LaneRoute, LaneRouteEnds, LaneRouteIsLost}
use Rattle.fabric_lane_counts.specs.Steps.{on_lanes}
use Rattle.fabric_lane_counts.specs.Sums.{pair_of}
use Rattle.fabric_lane_counts.proofs.EndLemmas.{ends_on_lanes, on_one_lane}
use Rattle.fabric_lane_counts.proofs.KeepLemmas.{none_gone}
use Rattle.fabric_lane_counts.proofs.LostLemmas.{lost_on_lanes}
use Rattle.fabric_lane_routes.specs.declared.hop.LaneOutcome.TheVariants.{Discards}
use Rattle.fabric_lane_routes.specs.LaneRoutes.{LaneEndsAs, begin_of, lane_hop}
use Rattle.fabric_lane_routes.proofs.OneLaneLemmas.{begin_start, start_begin}
use Rattle.fabric_model.specs.declared.node.EndPort.{EndPort}
use Rattle.fabric_model.specs.declared.node.Spot.{Spot}
use Rattle.fabric_model.specs.Fabric.{FabricOf, IsFabric}
use Rattle.fabric_routes.specs.declared.hop.Outcome.{Outcome}
use Rattle.fabric_model.specs.declared.traffic.Traffic.{Traffic}
use Rattle.fabric_routes.specs.Routes.{EndsAs}
use Rattle.fabric_routes.proofs.StartLemmas.{sender_is}
use Rattle.fabric_lane_tables.specs.Lanes.{LanesOf}
use Rattle.fabric_lane_tables.specs.PathLevels.{HasLevel, LevelsOf}

-- what ends so on its lanes ends so on one
pub ends_on_one : (fabric : FabricOf) (tables : TablesOf) (lanes : LanesOf) (outcome : Outcome) (route : LaneRoute) → LaneRouteEnds fabric tables lanes route (on_lanes outcome) → RouteEnds fabric tables (pair_of route) outcome
ends_on_one fabric tables lanes outcome route ends = record {
  start = ends.start.switch;
  begins = begin_start fabric route.source ends.start ends.begins;
  ends = on_one_lane fabric tables lanes route.level route.lid ends.start outcome ends.ends;
}

-- all levels are among some, with which nothing is discarded
module _ (fabric : FabricOf) (fits : IsFabric fabric) (tables : TablesOf) (lanes : LanesOf) (traffic : Traffic) (levels : LevelsOf) (told : ℕ) (kept : IsKept fabric lanes told) (used : (source : EndPort) (lid level : ℕ) → HasLevel levels source lid level → bit_at told level ≡ 1) where
  abbrev IsRoute : LaneRoute → Type 0
  IsRoute = IsLaneRouteOf fabric tables traffic levels

  is_kept : (route : LaneRoute) → IsRoute route → (start : Spot) → begin_of fabric route.source ≡ Some start → LaneEndsAs (lane_hop fabric tables lanes route.level route.lid) start Discards → ⊥
  is_kept route is start begins = none_gone fabric fits tables lanes told kept route.level route.lid is.has.0 (used route.source route.lid route.level is.has) traffic route.source start (sender_is fabric tables traffic route.lid route.source is.sends) begins

  pub kept_here : (route : LaneRoute) → IsRoute route → LaneRouteEnds fabric tables lanes route Discards → ⊥
  kept_here route is ends = is_kept route is ends.start ends.begins ends.ends

  -- what ends so on one lane ends so on its lanes
  pub ends_there : (outcome : Outcome) (route : LaneRoute) → IsRoute route → RouteEnds fabric tables (pair_of route) outcome → LaneRouteEnds fabric tables lanes route (on_lanes outcome)
  ends_there outcome route is ends =
      let (start, begins, same) = start_begin fabric route.source ends.start ends.begins in
      record {
        start = start;
        begins = begins;
        ends = ends_on_lanes fabric tables lanes route.level route.lid start (is_kept route is start begins) outcome (subst (λ (s : ℕ). EndsAs (hop_for fabric tables route.lid) s outcome) (sym same) ends.ends);
      }

  -- and is lost there
  pub lost_there : (outcome : Outcome) (route : LaneRoute) (at : ℕ) → IsRoute route → RouteIsLost fabric tables (pair_of route) outcome at → LaneRouteIsLost fabric tables lanes route (on_lanes outcome) at
  lost_there outcome route at is lost =
      let (start, begins, same) = start_begin fabric route.source lost.start lost.begins in
      record {
        start = start;
        begins = begins;
        lost = lost_on_lanes fabric tables lanes route.level route.lid start (is_kept route is start begins) outcome at (subst (λ (s : ℕ). IsLostAt (hop_for fabric tables route.lid) s outcome at) (sym same) lost.lost);
      }
