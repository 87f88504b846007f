-- Counts if nothing is discarded, all arrive on one lane, and each pair has a level.
use Rattle.std.proofs.Common.{◌≡◌, ◌≢◌, ◌∙◌, sym, ap, refl, subst, ℕ, zero, suc, ◌+◌, ◌<◌, ◌≤◌, ◌⊎◌, None, arith, inl, inr, max}
use Rattle.std.specs.Int.{bit_at}
use Rattle.std.proofs.lemmas.Bool.{cases_eq}
use Rattle.std.proofs.lemmas.Nat.Bits.{bit_at_ones}
use Rattle.fabric_tables.specs.Cells.{TablesOf}
use Rattle.fabric_counts.specs.Counts.{AreCounts, IsOf, IsOneThatArrives, Route, RouteEnds}
use Rattle.fabric_counts.specs.declared.counts.Counts.{Counts}
use Rattle.fabric_lane_counts.specs.Keep.{IsKept}
use Rattle.fabric_lane_counts.specs.LaneCounts.{AreLaneCounts, IsLaneRouteOf, IsSilent, LaneRoute, LaneRouteEnds}
use Rattle.fabric_lane_counts.specs.Sums.{IsUnowned, pair_of}
use Rattle.fabric_lane_counts.proofs.KeptLemmas.{ends_there}
use Rattle.fabric_lane_counts.proofs.ListLemmas.{as_many_are_all}
use Rattle.fabric_lane_counts.proofs.MoreLemmas.{counts_all_arrive, no_counts}
use Rattle.fabric_lane_routes.specs.declared.hop.LaneOutcome.TheVariants.{Arrives}
use Rattle.fabric_model.specs.declared.node.EndPort.{EndPort}
use Rattle.fabric_model.specs.Fabric.{FabricOf, IsFabric}
use Rattle.fabric_routes.specs.Counting.{IsCountOf}
use Rattle.fabric_routes.specs.declared.hop.Outcome.TheVariants as end
use Rattle.fabric_model.specs.declared.traffic.Traffic.{Traffic}
use Rattle.fabric_routes.proofs.StartLemmas.{same_end}
use Rattle.fabric_lane_tables.specs.Lanes.{LanesOf}
use Rattle.fabric_lane_tables.specs.PathLevels.{HasLevel, LevelsOf}

same_pair : (a b : Route) → (a ≡ b) ⊎ (a ≢ b)
same_pair a b = elim (cases_eq a.lid b.lid) [
  | inr other ↦ inr (λ e. other (ap (λ (r : Route). r.lid) e))
  | inl lid ↦ elim (same_end a.source b.source) [
    | inr other ↦ inr (λ e. other (ap (λ (r : Route). r.source) e))
    | inl source ↦ (
        let by_lid : ℕ → Route = λ l. record { lid = l; source = a.source } in
        let by_source : EndPort → Route = λ s. record { lid = b.lid; source = s } in
        inl (ap by_lid lid ∙ ap by_source source))
  ]
]

-- a number has one of the first bits, or none
some_bit : (count n : ℕ) → ((bit : ℕ) × (bit < count) × (bit_at n bit ≡ 1)) ⊎ ((bit : ℕ) → bit < count → bit_at n bit ≡ 1 → ⊥)
some_bit zero n = inr (λ bit low. absurd (omega arith))
some_bit (suc count) n = elim (some_bit count n) [
  | inl (bit, low, is) ↦ inl (bit, omega arith, is)
  | inr none ↦ elim (cases_eq (bit_at n count) 1) [
    | inl is ↦ inl (count, omega arith, is)
    | inr not ↦ inr (λ bit low is. elim (cases_eq bit count) [
      | inl last ↦ not (subst (λ (b : ℕ). bit_at n b ≡ 1) last is)
      | inr other ↦ none bit (omega arith) is
    ])
  ]
]

module _ (fabric : FabricOf) (fits : IsFabric fabric) (tables : TablesOf) (lanes : LanesOf) (traffic : Traffic) (levels : LevelsOf) (kept : IsKept fabric lanes 65535) (counts : Counts) (are : AreCounts fabric tables traffic counts) (all : counts.arrived ≡ counts.routes) (silent : IsCountOf (IsSilent fabric tables traffic levels) 0) where
  abbrev IsRoute : LaneRoute → Type 0
  IsRoute = IsLaneRouteOf fabric tables traffic levels

  used : (source : EndPort) (lid level : ℕ) → HasLevel levels source lid level → bit_at 65535 level ≡ 1
  used source lid level has = bit_at_ones 16 level has.0

  pair_arrives : (pair : Route) → IsOf fabric tables traffic pair → IsOneThatArrives fabric tables (IsOf fabric tables traffic) pair
  pair_arrives = as_many_are_all Route same_pair (IsOneThatArrives fabric tables (IsOf fabric tables traffic)) (IsOf fabric tables traffic) counts.routes (λ pair one. one.1.0)
      (subst (λ (n : ℕ). IsCountOf (IsOneThatArrives fabric tables (IsOf fabric tables traffic)) n) all are.arrived) are.routes

  arrives : (route : LaneRoute) → IsRoute route → (switches : ℕ) × LaneRouteEnds fabric tables lanes route (Arrives switches) × (switches ≤ counts.hops)
  arrives route is =
      let one = pair_arrives (pair_of route) is.sends in
      (one.0, ends_there fabric fits tables lanes traffic levels 65535 kept used (end.Arrives one.0) route is one.1.1, are.hops.most (pair_of route) one.0 one.1)

  -- some level of a pair
  has_one : (pair : Route) → IsOf fabric tables traffic pair → (route : LaneRoute) × IsRoute route × (pair_of route ≡ pair)
  has_one pair sends = elim (some_bit 16 (levels pair.source pair.lid)) [
    | inl (level, low, bit) ↦ (record { lid = pair.lid; source = pair.source; level = level }, record { sends = sends; has = (low, bit) }, refl)
    | inr not ↦ absurd (
        let there = silent.each pair (record { sends = sends; none = λ level has. not level has.0 has.1 }) in
        let size = silent.size in
        let low = there.1 in
        omega arith)
  ]

  longest : counts.hops ≢ 0 → (route : LaneRoute) × IsRoute route × LaneRouteEnds fabric tables lanes route (Arrives counts.hops)
  longest some =
      let (pair, one) = are.hops.some some in
      let (route, is, same) = has_one pair one.0 in
      (route, is, ends_there fabric fits tables lanes traffic levels 65535 kept used (end.Arrives counts.hops) route is (subst (λ (p : Route). RouteEnds fabric tables p (end.Arrives counts.hops)) (sym same) one.1))

  pub counts_told : (routes unowned : ℕ) → IsCountOf IsRoute routes → IsCountOf (IsUnowned fabric tables traffic levels) unowned → AreLaneCounts fabric tables lanes traffic levels (record {
    routes = 0 + routes;
    arrived = 0 + routes;
    unowned = 0 + unowned;
    hops = max 0 counts.hops;
    lost = record {
      missing = record { count = 0; least = None };
      dead = record { count = 0; least = None };
      wrong = record { count = 0; least = None };
      discard = record { count = 0; least = None };
      looping = record { count = 0; least = None };
    };
    silent = 0;
  })
  counts_told routes unowned is nobody = record {
    of = counts_all_arrive fabric tables lanes (λ (route : LaneRoute). ⊥) IsRoute IsRoute (λ route one. absurd one) (λ route one. one) (λ route one. inr one) (λ route one other. one)
        counts.hops arrives longest
        (record {
          routes = 0;
          arrived = 0;
          unowned = 0;
          hops = 0;
          lost = record {
            missing = record { count = 0; least = None };
            dead = record { count = 0; least = None };
            wrong = record { count = 0; least = None };
            discard = record { count = 0; least = None };
            looping = record { count = 0; least = None };
          };
          silent = 0;
        }) routes unowned (max 0 counts.hops) refl is nobody (no_counts fabric tables lanes (λ (route : LaneRoute). ⊥) (λ route one. one));
    silent = silent;
  }
