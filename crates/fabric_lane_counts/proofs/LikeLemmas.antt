-- Hops and walks on lanes as on one lane, as long as nothing is discarded.
use Rattle.std.proofs.Common.{◌≡◌, ◌∙◌, ap, refl, subst, ℕ, zero, suc, ◌⊎◌, sym, inl, inr}
use Rattle.fabric_tables.specs.Cells.{TablesOf}
use Rattle.fabric_lane_routes.specs.declared.hop.LaneHop.{LaneHop}
use Rattle.fabric_lane_routes.specs.declared.hop.LaneHop.TheVariants.{On, Arrive, Stop, Discard}
use Rattle.fabric_lane_routes.specs.LaneRoutes.{LaneWalksBy, lane_hop}
use Rattle.fabric_lane_routes.proofs.OneLaneLemmas.{Like, hop_like, on_like}
use Rattle.fabric_model.specs.declared.node.Spot.{Spot}
use Rattle.fabric_model.specs.Fabric.{FabricOf}
use Rattle.fabric_routes.specs.declared.hop.Cause.{Cause}
use Rattle.fabric_routes.specs.declared.hop.Hop.{Hop}
use Rattle.fabric_routes.specs.declared.hop.Hop.TheVariants as one
use Rattle.fabric_routes.specs.Routes.{ComesBy, hop}
use Rattle.fabric_lane_tables.specs.Lanes.{LanesOf}

-- what stops on one lane stops by the same cause, but for what is discarded
pub stop_like : (cause : Cause) (does : LaneHop) → Like (one.Stop cause) does → (does ≡ Discard) ⊎ (does ≡ Stop cause)
stop_like cause (On by lane to) like = absurd like
stop_like cause Arrive like = absurd like
stop_like cause (Stop other) like = inr (ap Stop (sym like))
stop_like cause Discard like = inl refl

-- what arrives or stops on lanes does so on one lane
pub like_arrive : (does : Hop) → Like does Arrive → does ≡ one.Arrive
like_arrive (one.On by next) like = absurd like
like_arrive one.Arrive like = refl
like_arrive (one.Stop cause) like = absurd like

pub like_stop : (does : Hop) (cause : Cause) → Like does (Stop cause) → does ≡ one.Stop cause
like_stop (one.On by next) cause like = absurd like
like_stop one.Arrive cause like = absurd like
like_stop (one.Stop other) cause like = ap (λ (c : Cause). one.Stop c) like

module _ (fabric : FabricOf) (tables : TablesOf) (lanes : LanesOf) (level lid : ℕ) where
  pub like_at : (at : Spot) (switch : ℕ) (does : Hop) → at.switch ≡ switch → hop fabric tables switch lid ≡ does → Like does (lane_hop fabric tables lanes level lid at)
  like_at at switch does same is = subst (λ (h : Hop). Like h (lane_hop fabric tables lanes level lid at)) (ap (λ (s : ℕ). hop fabric tables s lid) same ∙ is) (hop_like fabric tables lanes level lid at)

  -- a walk on one lane is one on lanes
  module _ (start : Spot) (kept : (hops : ℕ) (at : Spot) → LaneWalksBy (lane_hop fabric tables lanes level lid) hops start at → lane_hop fabric tables lanes level lid at ≡ Discard → ⊥) where
    pub walk_lanes : (hops at : ℕ) → ComesBy fabric tables lid hops start.switch at → (spot : Spot) × (spot.switch ≡ at) × LaneWalksBy (lane_hop fabric tables lanes level lid) hops start spot
    walk_lanes zero at walk = (start, walk, refl)
    walk_lanes (suc hops) at (before, port, walk, on) =
        let (spot, same, lane_walk) = walk_lanes hops before walk in
        elim (on_like port at (lane_hop fabric tables lanes level lid spot) (like_at spot before (one.On port at) same on)) [
          | inl gone ↦ absurd (kept hops spot lane_walk gone)
          | inr (lane, to, goes, there) ↦ (to, there, (spot, port, lane, lane_walk, goes))
        ]
