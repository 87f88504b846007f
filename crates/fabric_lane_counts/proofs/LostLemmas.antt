-- Where a route with a level is lost: as on one lane, or where it is discarded.
use Rattle.std.proofs.Common.{◌≡◌, ◌∙◌, sym, ap, refl, subst, ℕ, zero, suc, ◌+◌, ◌-◌, ◌<◌, ◌≤◌, arith, inl, inr}
use Rattle.std.proofs.lemmas.Bool.{cases_lt}
use Rattle.fabric_tables.specs.Cells.{TablesOf}
use Rattle.fabric_counts.specs.Counts.{ComesAgain, IsLost, IsLostAt, hop_for}
use Rattle.fabric_counts.proofs.LostLemmas.{two, walk_place}
use Rattle.fabric_lane_counts.specs.LaneCounts.{IsLaneLost, IsLaneLostAt, LaneComesAgain}
use Rattle.fabric_lane_counts.specs.Steps.{on_lanes}
use Rattle.fabric_lane_counts.proofs.EndLemmas.{none_gone, not_both, of_one, on_one_lane, stops_so}
use Rattle.fabric_lane_counts.proofs.GoneLemmas.{goes_next, same_next}
use Rattle.fabric_lane_counts.proofs.WalkLemmas.{no_end, one_end, one_walk, walk_first, walk_then}
use Rattle.fabric_lane_routes.specs.declared.hop.LaneHop.{LaneHop}
use Rattle.fabric_lane_routes.specs.declared.hop.LaneHop.TheVariants.{On, Stop, Discard}
use Rattle.fabric_lane_routes.specs.declared.hop.LaneOutcome.{LaneOutcome}
use Rattle.fabric_lane_routes.specs.declared.hop.LaneOutcome.TheVariants.{Discards}
use Rattle.fabric_lane_routes.specs.LaneRoutes.{LaneEndsAs, LaneWalksBy, lane_hop}
use Rattle.fabric_lane_counts.proofs.LikeLemmas.{like_at, stop_like, walk_lanes}
use Rattle.fabric_lane_routes.proofs.OneLaneLemmas.{walk_one}
use Rattle.fabric_model.specs.declared.node.Spot.{Spot}
use Rattle.fabric_model.specs.Fabric.{FabricOf, IsFabric, switch_count}
use Rattle.fabric_routes.specs.declared.hop.Hop.TheVariants as one
use Rattle.fabric_routes.specs.declared.hop.Outcome.{Outcome}
use Rattle.fabric_routes.specs.declared.hop.Outcome.TheVariants.{Arrives, Stops, Loops}
use Rattle.fabric_routes.specs.Routes.{EndsAs, WalksBy}
use Rattle.fabric_routes.proofs.ChannelLemmas.{hop_within}
use Rattle.fabric_lane_tables.specs.Lanes.{LanesOf}

pub is_lost : (outcome : Outcome) → IsLaneLost (on_lanes outcome) → IsLost outcome
is_lost (Arrives switches) lost = lost
is_lost (Stops cause) lost = lost
is_lost Loops lost = lost

module _ (fabric : FabricOf) (tables : TablesOf) (lanes : LanesOf) (level lid : ℕ) (start : Spot) where
  abbrev hop_at : Spot → LaneHop
  hop_at = lane_hop fabric tables lanes level lid

  -- as on one lane, if it is not discarded
  module _ (kept : LaneEndsAs hop_at start Discards → ⊥) where
    again : (switch : ℕ) → ComesAgain (hop_for fabric tables lid) start.switch switch → LaneComesAgain hop_at start switch
    again switch comes most =
        let (hops, far, walk) = comes most in
        let (spot, same, lane_walk) = walk_lanes fabric tables lanes level lid start (none_gone fabric tables lanes level lid start kept) hops switch walk in
        (hops, far, spot, lane_walk, same)

    again_one : (switch : ℕ) → LaneComesAgain hop_at start switch → ComesAgain (hop_for fabric tables lid) start.switch switch
    again_one switch comes most =
        let (hops, far, spot, walk, same) = comes most in
        (hops, far, subst (WalksBy (hop_for fabric tables lid) hops start.switch) same (walk_one fabric tables lanes level lid hops start spot walk))

    pub lost_on_lanes : (outcome : Outcome) (switch : ℕ) → IsLostAt (hop_for fabric tables lid) start.switch outcome switch → IsLaneLostAt hop_at start (on_lanes outcome) switch
    lost_on_lanes (Arrives switches) switch lost = lost
    lost_on_lanes (Stops cause) switch ((hops, walk), is) =
        let (spot, same, lane_walk, does) = stops_so fabric tables lanes level lid start kept hops switch (Stop cause) (λ at here. stop_like cause (hop_at at) (like_at fabric tables lanes level lid at switch (one.Stop cause) here is))
        (walk_lanes fabric tables lanes level lid start (none_gone fabric tables lanes level lid start kept) hops switch walk) in
        (hops, spot, lane_walk, does, same)
    lost_on_lanes Loops switch (comes, least) = (again switch comes, λ other also. least other (again_one other also))

  -- so it is lost where it is on one lane
  pub lost_so : (outcome : LaneOutcome) (switch : ℕ) → (outcome ≡ Discards → ⊥) → ((on_one : Outcome) → IsLost on_one → EndsAs (hop_for fabric tables lid) start.switch on_one → IsLostAt (hop_for fabric tables lid) start.switch on_one switch) → IsLaneLost outcome → LaneEndsAs hop_at start outcome → IsLaneLostAt hop_at start outcome switch
  lost_so outcome switch other at lost ends = elim (of_one outcome) [
    | inl gone ↦ absurd (other gone)
    | inr (on_one, is) ↦ (
        let here = subst (LaneEndsAs hop_at start) is ends in
        let found = at on_one (is_lost on_one (subst IsLaneLost is lost)) (on_one_lane fabric tables lanes level lid start on_one here) in
        subst (λ (o : LaneOutcome). IsLaneLostAt hop_at start o switch) (sym is) (lost_on_lanes (λ gone. not_both fabric tables lanes level lid start on_one gone here) on_one switch found))
  ]

  -- the parts of a walk
  split : (hops more : ℕ) (from at : Spot) → LaneWalksBy hop_at (hops + more) from at → (mid : Spot) × LaneWalksBy hop_at hops from mid × LaneWalksBy hop_at more mid at
  split zero more from at walk = (from, refl, subst (λ (k : ℕ). LaneWalksBy hop_at k from at) (let e : 0 + more ≡ more = omega arith in e) walk)
  split (suc hops) more from at walk =
      let far : LaneWalksBy hop_at (suc (hops + more)) from at = subst (λ (k : ℕ). LaneWalksBy hop_at k from at) (let e : suc hops + more ≡ suc (hops + more) = omega arith in e) walk in
      let (next, (port, lane, on), rest) = walk_first hop_at (hops + more) from at far in
      let (mid, one, other) = split hops more next at rest in
      (mid, walk_then hop_at hops from next mid port lane on one, other)

  split_at : (hops most : ℕ) (at : Spot) → hops < most → LaneWalksBy hop_at most start at → (mid next : Spot) × ((port lane : ℕ) × (hop_at mid ≡ On port lane next)) × LaneWalksBy hop_at hops start mid × LaneWalksBy hop_at (most - hops - 1) next at
  split_at hops most at less walk =
      let (mid, one, other) = split hops (suc (most - hops - 1)) start at (subst (λ (k : ℕ). LaneWalksBy hop_at k start at) (let e : most ≡ hops + suc (most - hops - 1) = omega arith in e) walk) in
      let (next, on, rest) = walk_first hop_at (most - hops - 1) mid at other in
      (mid, next, on, one, rest)

  -- what is discarded comes by no more hops than there are switches: it leaves none twice
  module _ (fits : IsFabric fabric) (low : start.switch < switch_count fabric) (hops : ℕ) (there : Spot) (walk : LaneWalksBy hop_at hops start there) (gone : hop_at there ≡ Discard) where
    last : (port lane : ℕ) (next : Spot) → hop_at there ≡ On port lane next → ⊥
    last port lane next on = absurd (cc)

    pub few_hops : hops ≤ switch_count fabric
    few_hops = elim (cases_lt (switch_count fabric) hops) [
      | inr few ↦ few
      | inl many ↦ absurd (
          let (base, round, some, most, same) = two (hop_for fabric tables lid) start.switch (switch_count fabric) low (λ at port next on. hop_within fabric fits tables at lid port next on) in
          let (one, next, (port, lane, on), walk_one_part, rest) = split_at base hops there (omega arith) walk in
          let (other, also, (by, at_lane, goes), walk_other, rest_also) = split_at (base + round) hops there (omega arith) walk in
          let here = walk_place (hop_for fabric tables lid) start.switch base one.switch (walk_one fabric tables lanes level lid base start one walk_one_part) in
          let far = walk_place (hop_for fabric tables lid) start.switch (base + round) other.switch (walk_one fabric tables lanes level lid (base + round) start other walk_other) in
          let met = same_next fabric tables lanes lid one.switch other.switch next also (here ∙ sym same ∙ sym far) (goes_next fabric tables lanes lid level one port lane next on) (goes_next fabric tables lanes lid level other by at_lane also goes) in
          let count = (one_end hop_at (hops - base - 1) (hops - (base + round) - 1) next there there rest (subst (λ (s : Spot). LaneWalksBy hop_at (hops - (base + round) - 1) s there) (sym met) rest_also) last last).0 in
          omega arith)
    ]

  -- where it is discarded
  pub goes_no_further : (hops : ℕ) (at : Spot) → LaneWalksBy hop_at hops start at → hop_at at ≡ Discard → IsLaneLostAt hop_at start Discards at.switch
  goes_no_further hops at walk gone = (hops, at, walk, gone, refl)

  pub not_elsewhere : (hops : ℕ) (at : Spot) → LaneWalksBy hop_at hops start at → ((port lane : ℕ) (next : Spot) → hop_at at ≡ On port lane next → ⊥) → (hop_at at ≡ Discard → ⊥) → LaneEndsAs hop_at start Discards → ⊥
  not_elsewhere hops at walk ends other (more, there, also, gone) =
      let same = (one_end hop_at hops more start at there walk also ends (λ port lane next on. absurd (cc))).1 in
      other (ap hop_at same ∙ gone)

  pub after_all : IsFabric fabric → start.switch < switch_count fabric → (at : Spot) → LaneWalksBy hop_at (switch_count fabric) start at → LaneEndsAs hop_at start Discards → IsLaneLostAt hop_at start Discards at.switch
  after_all fits low at walk (hops, there, also, gone) = elim (cases_lt hops (switch_count fabric)) [
    | inl less ↦ absurd (let on = no_end hop_at hops (switch_count fabric) start there at less also walk in let goes = on.3 in cc)
    | inr no_less ↦ (
        let few = few_hops fits low hops there also gone in
        let e : hops ≡ switch_count fabric = omega arith in
        let same = one_walk hop_at (switch_count fabric) start there at (subst (λ (k : ℕ). LaneWalksBy hop_at k start there) e also) walk in
        (hops, there, also, gone, ap (λ (s : Spot). s.switch) same))
  ]

  pub walk_more : (hops : ℕ) (at next : Spot) (port lane : ℕ) → LaneWalksBy hop_at hops start at → hop_at at ≡ On port lane next → LaneWalksBy hop_at (hops + 1) start next
  walk_more hops at next port lane walk on =
      let far : LaneWalksBy hop_at (suc hops) start next = (at, port, lane, walk, on) in
      subst (λ (k : ℕ). LaneWalksBy hop_at k start next) (let e : suc hops ≡ hops + 1 = omega arith in e) far
