-- A route with a level ends as on one lane, or is discarded; and it ends in one way.
use Rattle.std.proofs.Common.{◌≡◌, ◌∙◌, sym, ap, subst, refl, ℕ, suc, ◌⊎◌, Bool, true, false, cond, arith, inl, inr}
use Rattle.fabric_tables.specs.Cells.{TablesOf}
use Rattle.fabric_counts.specs.Counts.{hop_for}
use Rattle.fabric_counts.proofs.EndLemmas.{one_ending}
use Rattle.fabric_lane_counts.specs.LaneCounts.{LaneRoute, LaneRouteEnds}
use Rattle.fabric_lane_counts.specs.Steps.{on_lanes}
use Rattle.fabric_lane_counts.proofs.WalkLemmas.{no_end, one_end}
use Rattle.fabric_lane_routes.specs.declared.hop.LaneHop.{LaneHop}
use Rattle.fabric_lane_routes.specs.declared.hop.LaneHop.TheVariants.{Arrive, Stop, Discard}
use Rattle.fabric_lane_routes.specs.declared.hop.LaneOutcome.{LaneOutcome}
use Rattle.fabric_lane_routes.specs.declared.hop.LaneOutcome.TheVariants.{Arrives, Stops, Discards, Loops}
use Rattle.fabric_lane_routes.specs.LaneRoutes.{LaneEndsAs, LaneWalksBy, lane_hop}
use Rattle.fabric_lane_counts.proofs.LikeLemmas.{like_arrive, like_at, like_stop, stop_like, walk_lanes}
use Rattle.fabric_lane_routes.proofs.OneLaneLemmas.{Like, arrive_like, hop_like, walk_one}
use Rattle.fabric_model.specs.declared.node.Spot.{Spot}
use Rattle.fabric_model.specs.Fabric.{FabricOf}
use Rattle.fabric_routes.specs.declared.hop.Hop.TheVariants as one
use Rattle.fabric_routes.specs.declared.hop.Outcome.{Outcome}
use Rattle.fabric_routes.specs.declared.hop.Outcome.TheVariants as end
use Rattle.fabric_routes.specs.Routes.{EndsAs, hop}
use Rattle.fabric_lane_tables.specs.Lanes.{LanesOf}

-- each outcome is of one lane, but that of what is discarded
pub of_one : (outcome : LaneOutcome) → (outcome ≡ Discards) ⊎ ((on_one : Outcome) × (outcome ≡ on_lanes on_one))
of_one (Arrives switches) = inr (end.Arrives switches, refl)
of_one (Stops cause) = inr (end.Stops cause, refl)
of_one Discards = inl refl
of_one Loops = inr (end.Loops, refl)

module _ (fabric : FabricOf) (tables : TablesOf) (lanes : LanesOf) (level lid : ℕ) (start : Spot) where
  abbrev pub hop_at : Spot → LaneHop
  hop_at = lane_hop fabric tables lanes level lid

  abbrev pub IsGone : Type 0
  IsGone = LaneEndsAs hop_at start Discards

  like_of : (at : Spot) (does : LaneHop) → hop_at at ≡ does → Like (hop fabric tables at.switch lid) does
  like_of at does is = subst (Like (hop fabric tables at.switch lid)) is (hop_like fabric tables lanes level lid at)

  -- as on one lane
  pub on_one_lane : (outcome : Outcome) → LaneEndsAs hop_at start (on_lanes outcome) → EndsAs (hop_for fabric tables lid) start.switch outcome
  on_one_lane (end.Arrives switches) (hops, at, walk, is, count) =
      (hops, at.switch, walk_one fabric tables lanes level lid hops start at walk, like_arrive (hop fabric tables at.switch lid) (like_of at Arrive is), count)
  on_one_lane (end.Stops cause) (hops, at, walk, is) =
      (hops, at.switch, walk_one fabric tables lanes level lid hops start at walk, like_stop (hop fabric tables at.switch lid) cause (like_of at (Stop cause) is))
  on_one_lane end.Loops loops = λ hops. (let far = loops hops in (far.0.switch, walk_one fabric tables lanes level lid hops start far.0 far.1))

  -- if it is not discarded
  module _ (kept : IsGone → ⊥) where
    pub none_gone : (hops : ℕ) (at : Spot) → LaneWalksBy hop_at hops start at → hop_at at ≡ Discard → ⊥
    none_gone hops at walk gone = kept (hops, at, walk, gone)

    pub stops_so : (hops : ℕ) (at : ℕ) (does : LaneHop) → ((spot : Spot) → spot.switch ≡ at → (hop_at spot ≡ Discard) ⊎ (hop_at spot ≡ does)) → (spot : Spot) × (spot.switch ≡ at) × LaneWalksBy hop_at hops start spot → (spot : Spot) × (spot.switch ≡ at) × LaneWalksBy hop_at hops start spot × (hop_at spot ≡ does)
    stops_so hops at does either (spot, same, walk) = elim (either spot same) [
      | inl gone ↦ absurd (none_gone hops spot walk gone)
      | inr is ↦ (spot, same, walk, is)
    ]

    pub ends_on_lanes : (outcome : Outcome) → EndsAs (hop_for fabric tables lid) start.switch outcome → LaneEndsAs hop_at start (on_lanes outcome)
    ends_on_lanes (end.Arrives switches) (hops, at, walk, is, count) =
        let far = stops_so hops at Arrive (λ spot same. arrive_like (hop_at spot) (like_at fabric tables lanes level lid spot at one.Arrive same is))
        (walk_lanes fabric tables lanes level lid start none_gone hops at walk) in
        (hops, far.0, far.2, far.3, count)
    ends_on_lanes (end.Stops cause) (hops, at, walk, is) =
        let far = stops_so hops at (Stop cause) (λ spot same. stop_like cause (hop_at spot) (like_at fabric tables lanes level lid spot at (one.Stop cause) same is))
        (walk_lanes fabric tables lanes level lid start none_gone hops at walk) in
        (hops, far.0, far.2, far.3)
    ends_on_lanes end.Loops loops = λ hops. (
        let far = loops hops in
        let spot = walk_lanes fabric tables lanes level lid start none_gone hops far.0 far.1 in
        (spot.0, spot.2))

  -- it is discarded, or not
  pub ends_if : (gone : Bool) (outcome : Outcome) → (gone ≡ true → IsGone) → (IsGone → gone ≡ true) → EndsAs (hop_for fabric tables lid) start.switch outcome → LaneEndsAs hop_at start (cond gone Discards (on_lanes outcome))
  ends_if true outcome is back ends = is refl
  ends_if false outcome is back ends = ends_on_lanes (λ gone. (let t = back gone in cc)) outcome ends

  -- and not both
  pub not_both : (outcome : Outcome) → IsGone → LaneEndsAs hop_at start (on_lanes outcome) → ⊥
  not_both (end.Arrives switches) (hops, at, walk, gone) (more, there, other, is, count) =
      let same = (one_end hop_at hops more start at there walk other (λ port lane next on. absurd (cc)) (λ port lane next on. absurd (cc))).1 in
      let e = ap hop_at same in
      absurd (cc)
  not_both (end.Stops cause) (hops, at, walk, gone) (more, there, other, is) =
      let same = (one_end hop_at hops more start at there walk other (λ port lane next on. absurd (cc)) (λ port lane next on. absurd (cc))).1 in
      let e = ap hop_at same in
      absurd (cc)
  not_both end.Loops (hops, at, walk, gone) loops =
      let far = loops (suc hops) in
      let on = no_end hop_at hops (suc hops) start at far.0 (omega arith) walk far.1 in
      let goes = on.3 in
      absurd (cc)

  one_lane_ending : (first second : LaneOutcome) → LaneEndsAs hop_at start first → LaneEndsAs hop_at start second → first ≡ second
  one_lane_ending first second this that = elim (of_one first) [
    | inl gone ↦ elim (of_one second) [
      | inl also ↦ gone ∙ sym also
      | inr (outcome, is) ↦ absurd (not_both outcome (subst (LaneEndsAs hop_at start) gone this) (subst (LaneEndsAs hop_at start) is that))
    ]
    | inr (outcome, is) ↦ elim (of_one second) [
      | inl also ↦ absurd (not_both outcome (subst (LaneEndsAs hop_at start) also that) (subst (LaneEndsAs hop_at start) is this))
      | inr (other, same) ↦ (
          let e = one_ending (hop_for fabric tables lid) start.switch outcome other (on_one_lane outcome (subst (LaneEndsAs hop_at start) is this)) (on_one_lane other (subst (LaneEndsAs hop_at start) same that)) in
          is ∙ ap on_lanes e ∙ sym same)
    ]
  ]

pub one_outcome : (fabric : FabricOf) (tables : TablesOf) (lanes : LanesOf) (route : LaneRoute) (one other : LaneOutcome) → LaneRouteEnds fabric tables lanes route one → LaneRouteEnds fabric tables lanes route other → one ≡ other
one_outcome fabric tables lanes route one other first second =
    let a = first.begins in
    let b = second.begins in
    let same : second.start ≡ first.start = cc in
    one_lane_ending fabric tables lanes route.level route.lid first.start one other first.ends (subst (λ (s : Spot). LaneEndsAs (lane_hop fabric tables lanes route.level route.lid) s other) same second.ends)
