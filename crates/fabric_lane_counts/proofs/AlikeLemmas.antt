-- Counts if all end ports send with the same levels and nothing is discarded: those of one lane, for each level.
use Rattle.std.proofs.Common.{◌≡◌, ◌≢◌, ◌∙◌, sym, ap, refl, subst, ℕ, ◌+◌, ◌^◌, ◌<◌, ◌⊎◌, Option, Some, None, arith, inl, inr, max}
use Rattle.std.specs.Int.{bit_at, trailing_zeros, w16}
use Rattle.std.specs.Prelude.{MatchOption}
use Rattle.std.proofs.lemmas.Bool.{cases_eq, cases_lt}
use Rattle.std.proofs.lemmas.Nat.Bits.{bit_at-trailing_zeros, bit_at-zero}
use Rattle.fabric_tables.specs.Cells.{TablesOf}
use Rattle.fabric_counts.specs.Counts.{AreCounts, IsOf, Route, RouteEnds, RouteIsLost}
use Rattle.fabric_counts.specs.Counts as on_one
use Rattle.fabric_counts.specs.declared.counts.Counts.{Counts}
use Rattle.fabric_counts.specs.declared.counts.Loss.{Loss}
use Rattle.fabric_counts.specs.declared.counts.LostRoute.{LostRoute}
use Rattle.fabric_lane_counts.specs.declared.counts.LaneCounts.{LaneCounts}
use Rattle.fabric_lane_counts.specs.declared.counts.LaneLoss.{LaneLoss}
use Rattle.fabric_lane_counts.specs.declared.counts.LostLaneRoute.{LostLaneRoute}
use Rattle.fabric_lane_counts.specs.Alike.{IsBelow, alike, least_with, loss_with, losses_with}
use Rattle.fabric_lane_counts.specs.Keep.{IsKept}
use Rattle.fabric_lane_counts.specs.LaneCounts.{AreCountsOf, AreMostHops, IsLaneRouteOf, IsLeastLost, IsLoss, IsOneThat, IsOneThatArrives, IsOneToNobody, IsSilent, LaneRoute, LaneRouteEnds, LaneRouteIsLost, lane_route_of}
use Rattle.fabric_lane_counts.specs.Steps.{on_lanes}
use Rattle.fabric_lane_counts.specs.Sums.{pair_of}
use Rattle.fabric_lane_counts.proofs.KeptLemmas.{ends_on_one, ends_there, kept_here, lost_there}
use Rattle.fabric_lane_counts.proofs.MoreLemmas.{counts_same}
use Rattle.fabric_lane_routes.specs.declared.hop.LaneOutcome.{LaneOutcome}
use Rattle.fabric_lane_routes.specs.declared.hop.LaneOutcome.TheVariants.{Arrives, Discards}
use Rattle.fabric_model.specs.declared.node.EndPort.{EndPort}
use Rattle.fabric_model.specs.Fabric.{FabricOf, IsFabric, owner_of}
use Rattle.fabric_routes.specs.Counting.{IsCountOf}
use Rattle.fabric_routes.specs.declared.hop.Cause.TheVariants.{Missing, Dead, Wrong}
use Rattle.fabric_routes.specs.declared.hop.Outcome.{Outcome}
use Rattle.fabric_routes.specs.declared.hop.Outcome.TheVariants as end
use Rattle.fabric_model.specs.declared.traffic.Traffic.{Traffic}
use Rattle.fabric_routes.proofs.CountLemmas.{count_image, count_none, count_same, count_sum}
use Rattle.fabric_lane_tables.specs.Lanes.{LanesOf}
use Rattle.fabric_lane_tables.specs.PathLevels.{HasLevel}

abbrev route_at : ℕ → Route → LaneRoute
route_at level pair = record { lid = pair.lid; source = pair.source; level = level }

module _ (fabric : FabricOf) (fits : IsFabric fabric) (tables : TablesOf) (lanes : LanesOf) (traffic : Traffic) (told : ℕ) (kept : IsKept fabric lanes told) where
  abbrev IsRoute : LaneRoute → Type 0
  IsRoute = IsLaneRouteOf fabric tables traffic (alike told)

  abbrev Below : ℕ → LaneRoute → Type 0
  Below = IsBelow fabric tables traffic told

  abbrev Ends : LaneOutcome → LaneRoute → Type 0
  Ends outcome route = LaneRouteEnds fabric tables lanes route outcome

  used : (source : EndPort) (lid level : ℕ) → HasLevel (alike told) source lid level → bit_at told level ≡ 1
  used source lid level has = has.1

  not_discarded : (route : LaneRoute) → IsRoute route → Ends Discards route → ⊥
  not_discarded = kept_here fabric fits tables lanes traffic (alike told) told kept used

  to_one : (outcome : Outcome) (route : LaneRoute) → Ends (on_lanes outcome) route → RouteEnds fabric tables (pair_of route) outcome
  to_one = ends_on_one fabric tables lanes

  to_lanes : (outcome : Outcome) (route : LaneRoute) → IsRoute route → RouteEnds fabric tables (pair_of route) outcome → Ends (on_lanes outcome) route
  to_lanes = ends_there fabric fits tables lanes traffic (alike told) told kept used

  lost_lanes : (outcome : Outcome) (route : LaneRoute) (at : ℕ) → IsRoute route → RouteIsLost fabric tables (pair_of route) outcome at → LaneRouteIsLost fabric tables lanes route (on_lanes outcome) at
  lost_lanes = lost_there fabric fits tables lanes traffic (alike told) told kept used

  -- with a level that all have ..
  module _ (level : ℕ) (low : level < 16) (bit : bit_at told level ≡ 1) where
    abbrev At : LaneRoute → Type 0
    At route = IsRoute route × (route.level ≡ level)

    is_at : (pair : Route) → IsOf fabric tables traffic pair → IsRoute (route_at level pair)
    is_at pair sends = record { sends = sends; has = (low, bit) }

    same_at : (route : LaneRoute) → route.level ≡ level → route_at level (pair_of route) ≡ route
    same_at route here = (let by_level : ℕ → LaneRoute = λ l. record { lid = route.lid; source = route.source; level = l } in ap by_level (sym here))

    to : (route : LaneRoute) → Below level route → Below (level + 1) route
    to route below = (below.0, (let less = below.1 in omega arith))

    add : (route : LaneRoute) → At route → Below (level + 1) route
    add route at = (at.0, (let here = at.1 in omega arith))

    back : (route : LaneRoute) → Below (level + 1) route → Below level route ⊎ At route
    back route below = elim (cases_eq route.level level) [
      | inl here ↦ inr (below.0, here)
      | inr other ↦ inl (below.0, (let less = below.1 in omega arith))
    ]

    apart : (route : LaneRoute) → Below level route → At route → ⊥
    apart route below at = absurd (let less = below.1 in let here = at.1 in omega arith)

    -- .. as many end so as on one lane
    count_at : (outcome : Outcome) (count : ℕ) → IsCountOf (on_one.IsOneThat fabric tables (IsOf fabric tables traffic) outcome) count → IsCountOf (λ route. At route × Ends (on_lanes outcome) route) count
    count_at outcome count = count_image Route LaneRoute (route_at level) (on_one.IsOneThat fabric tables (IsOf fabric tables traffic) outcome) (λ route. At route × Ends (on_lanes outcome) route) count
        (λ pair is. ((is_at pair is.0, refl), to_lanes outcome (route_at level pair) (is_at pair is.0) is.1))
        (λ route is. (pair_of route, (is.0.0.sends, to_one outcome route is.1), same_at route is.0.1))
        (λ pair other same. ap pair_of same)

    least_at : (outcome : Outcome) (old : Option LostLaneRoute) (least : Option LostRoute) → MatchOption old ((route : LaneRoute) → IsOneThat fabric tables lanes (Below level) (on_lanes outcome) route → ⊥) (IsLeastLost fabric tables lanes (Below level) (on_lanes outcome)) → MatchOption least ((pair : Route) → on_one.IsOneThat fabric tables (IsOf fabric tables traffic) outcome pair → ⊥) (on_one.IsLeastLost fabric tables (IsOf fabric tables traffic) outcome) → MatchOption (least_with level old least) ((route : LaneRoute) → IsOneThat fabric tables lanes (Below (level + 1)) (on_lanes outcome) route → ⊥) (IsLeastLost fabric tables lanes (Below (level + 1)) (on_lanes outcome))
    least_at outcome (Some found) least is new =
        let less = is.is.0.1 in
        let down : (other : LaneRoute) → IsRoute other → Ends (on_lanes outcome) other → IsOneThat fabric tables lanes (Below level) (on_lanes outcome) (route_at found.level (pair_of other)) = (λ other sent ends. (
        let there : IsRoute (route_at found.level (pair_of other)) = record { sends = sent.sends; has = is.is.0.0.has } in
        ((there, less), to_lanes outcome (route_at found.level (pair_of other)) there (to_one outcome other ends)))) in
        record {
          is = (to (lane_route_of found) is.is.0, is.is.1);
          at = is.at;
          least = λ other that. is.least (route_at found.level (pair_of other)) (down other that.0.0 that.1);
          first = λ other that same. is.first (route_at found.level (pair_of other)) (down other that.0.0 that.1) same;
          lowest = λ other that same here. elim (back other that.0) [
            | inl before ↦ is.lowest other (before, that.1) same here
            | inr now ↦ (let e = now.1 in omega arith)
          ];
        }
    least_at outcome None None none no_new = λ route that. elim (back route that.0) [
      | inl before ↦ none route (before, that.1)
      | inr now ↦ no_new (pair_of route) (now.0.sends, to_one outcome route that.1)
    ]
    least_at outcome None (Some found) none new =
        let pair : Route = record { lid = found.lid; source = found.source } in
        record {
          is = (add (route_at level pair) (is_at pair new.is.0, refl), to_lanes outcome (route_at level pair) (is_at pair new.is.0) new.is.1);
          at = lost_lanes outcome (route_at level pair) found.at (is_at pair new.is.0) new.at;
          least = λ other that. elim (back other that.0) [
            | inl before ↦ absurd (none other (before, that.1))
            | inr now ↦ new.least (pair_of other) (now.0.sends, to_one outcome other that.1)
          ];
          first = λ other that same. elim (back other that.0) [
            | inl before ↦ absurd (none other (before, that.1))
            | inr now ↦ new.first (pair_of other) (now.0.sends, to_one outcome other that.1) same
          ];
          lowest = λ other that same here. elim (back other that.0) [
            | inl before ↦ absurd (none other (before, that.1))
            | inr now ↦ (let e = now.1 in omega arith)
          ];
        }

    pub loss_at : (outcome : Outcome) (old : LaneLoss) (loss : Loss) → IsLoss fabric tables lanes (Below level) (on_lanes outcome) old → on_one.IsLoss fabric tables (IsOf fabric tables traffic) outcome loss → IsLoss fabric tables lanes (Below (level + 1)) (on_lanes outcome) (loss_with level old loss)
    loss_at outcome old loss is new = record {
      count = count_sum LaneRoute (IsOneThat fabric tables lanes (Below level) (on_lanes outcome)) (λ route. At route × Ends (on_lanes outcome) route) (IsOneThat fabric tables lanes (Below (level + 1)) (on_lanes outcome)) old.count loss.count
          (λ route that. (to route that.0, that.1)) (λ route that. (add route that.0, that.1))
          (λ route that. elim (back route that.0) [ inl before ↦ inl (before, that.1) | inr now ↦ inr (now, that.1) ])
          (λ route before now. apart route before.0 now.0) is.count (count_at outcome loss.count new.count);
      least = least_at outcome old.least loss.least is.least new.least;
    }

    discard_at : (old : LaneLoss) → IsLoss fabric tables lanes (Below level) Discards old → IsLoss fabric tables lanes (Below (level + 1)) Discards old
    discard_at old is = record {
      count = count_same LaneRoute (IsOneThat fabric tables lanes (Below level) Discards) (IsOneThat fabric tables lanes (Below (level + 1)) Discards) old.count
          (λ route that. (to route that.0, that.1)) (λ route that. absurd (not_discarded route that.0.0 that.1)) is.count;
      least = none_more old.least is.least;
    }
      where
        none_more : (least : Option LostLaneRoute) → MatchOption least ((route : LaneRoute) → IsOneThat fabric tables lanes (Below level) Discards route → ⊥) (IsLeastLost fabric tables lanes (Below level) Discards) → MatchOption least ((route : LaneRoute) → IsOneThat fabric tables lanes (Below (level + 1)) Discards route → ⊥) (IsLeastLost fabric tables lanes (Below (level + 1)) Discards)
        none_more None none = λ route that. not_discarded route that.0.0 that.1
        none_more (Some found) is_least = absurd (not_discarded (lane_route_of found) is_least.is.0.0 is_least.is.1)

    hops_at : (old hops most : ℕ) → most ≡ max old hops → AreMostHops fabric tables lanes (Below level) old → on_one.AreMostHops fabric tables (IsOf fabric tables traffic) hops → AreMostHops fabric tables lanes (Below (level + 1)) most
    hops_at old hops most is_most are new = record {
      most = λ route switches that. elim (back route that.0) [
        | inl before ↦ (let le = are.most route switches (before, that.1) in omega arith)
        | inr now ↦ (let le = new.most (pair_of route) switches (now.0.sends, to_one (end.Arrives switches) route that.1) in omega arith)
      ];
      some = λ not_none. elim (cases_lt hops old) [
        | inl less ↦ (
            let e : old ≡ most = omega arith in
            let that = are.some (λ none. not_none (sym e ∙ none)) in
            subst (λ (n : ℕ). (route : LaneRoute) × IsOneThat fabric tables lanes (Below (level + 1)) (Arrives n) route) e (that.0, (to that.0 that.1.0, that.1.1)))
        | inr no_less ↦ (
            let e : hops ≡ most = omega arith in
            let that = new.some (λ none. not_none (sym e ∙ none)) in
            let route = route_at level that.0 in
            subst (λ (n : ℕ). (route : LaneRoute) × IsOneThat fabric tables lanes (Below (level + 1)) (Arrives n) route) e
            (route_at level that.0, (add (route_at level that.0) (is_at that.0 that.1.0, refl), to_lanes (end.Arrives hops) (route_at level that.0) (is_at that.0 that.1.0) that.1.1)))
      ];
    }

    arrived_at : (old count : ℕ) → IsCountOf (IsOneThatArrives fabric tables lanes (Below level)) old → IsCountOf (on_one.IsOneThatArrives fabric tables (IsOf fabric tables traffic)) count → IsCountOf (IsOneThatArrives fabric tables lanes (Below (level + 1))) (old + count)
    arrived_at old count is new = count_sum LaneRoute (IsOneThatArrives fabric tables lanes (Below level)) (λ route. At route × ((switches : ℕ) × Ends (Arrives switches) route)) (IsOneThatArrives fabric tables lanes (Below (level + 1))) old count
        (λ route that. (that.0, (to route that.1.0, that.1.1))) (λ route that. (that.1.0, (add route that.0, that.1.1)))
        (λ route that. elim (back route that.1.0) [ inl before ↦ inl (that.0, (before, that.1.1)) | inr now ↦ inr (now, (that.0, that.1.1)) ])
        (λ route before now. apart route before.1.0 now.0) is
        (count_image Route LaneRoute (route_at level) (on_one.IsOneThatArrives fabric tables (IsOf fabric tables traffic)) (λ route. At route × ((switches : ℕ) × Ends (Arrives switches) route)) count
        (λ pair that. ((is_at pair that.1.0, refl), (that.0, to_lanes (end.Arrives that.0) (route_at level pair) (is_at pair that.1.0) that.1.1)))
        (λ route that. (pair_of route, (that.1.0, (that.0.0.sends, to_one (end.Arrives that.1.0) route that.1.1)), same_at route that.0.1))
        (λ pair other same. ap pair_of same) new)

    unowned_at : (old count : ℕ) → IsCountOf (IsOneToNobody fabric tables lanes (Below level)) old → IsCountOf (on_one.IsOneToNobody fabric tables (IsOf fabric tables traffic)) count → IsCountOf (IsOneToNobody fabric tables lanes (Below (level + 1))) (old + count)
    unowned_at old count is new = count_sum LaneRoute (IsOneToNobody fabric tables lanes (Below level)) (λ route. At route × ((switches : ℕ) × Ends (Arrives switches) route) × (owner_of fabric route.lid ≡ None)) (IsOneToNobody fabric tables lanes (Below (level + 1))) old count
        (λ route that. ((that.0.0, (to route that.0.1.0, that.0.1.1)), that.1)) (λ route that. ((that.1.0, (add route that.0, that.1.1)), that.2))
        (λ route that. elim (back route that.0.1.0) [ inl before ↦ inl ((that.0.0, (before, that.0.1.1)), that.1) | inr now ↦ inr (now, (that.0.0, that.0.1.1), that.1) ])
        (λ route before now. apart route before.0.1.0 now.0) is
        (count_image Route LaneRoute (route_at level) (on_one.IsOneToNobody fabric tables (IsOf fabric tables traffic)) (λ route. At route × ((switches : ℕ) × Ends (Arrives switches) route) × (owner_of fabric route.lid ≡ None)) count
        (λ pair that. ((is_at pair that.0.1.0, refl), (that.0.0, to_lanes (end.Arrives that.0.0) (route_at level pair) (is_at pair that.0.1.0) that.0.1.1), that.1))
        (λ route that. (pair_of route, ((that.1.0, (that.0.0.sends, to_one (end.Arrives that.1.0) route that.1.1)), that.2), same_at route that.0.1))
        (λ pair other same. ap pair_of same) new)

    pub counts_at : (old : LaneCounts) (counts : Counts) (most : ℕ) → most ≡ max old.hops counts.hops → AreCountsOf fabric tables lanes (Below level) old → AreCounts fabric tables traffic counts → AreCountsOf fabric tables lanes (Below (level + 1)) (record {
      routes = old.routes + counts.routes;
      arrived = old.arrived + counts.arrived;
      unowned = old.unowned + counts.unowned;
      hops = most;
      lost = losses_with level old.lost counts.lost;
      silent = old.silent;
    })
    counts_at old counts most is_most are new = record {
      routes = count_sum LaneRoute (Below level) At (Below (level + 1)) old.routes counts.routes to add back apart are.routes
          (count_image Route LaneRoute (route_at level) (IsOf fabric tables traffic) At counts.routes (λ pair sends. (is_at pair sends, refl)) (λ route that. (pair_of route, that.0.sends, same_at route that.1)) (λ pair other same. ap pair_of same) new.routes);
      arrived = arrived_at old.arrived counts.arrived are.arrived new.arrived;
      unowned = unowned_at old.unowned counts.unowned are.unowned new.unowned;
      hops = hops_at old.hops counts.hops most is_most are.hops new.hops;
      lost = record {
        missing = loss_at (end.Stops Missing) old.lost.missing counts.lost.missing are.lost.missing new.lost.missing;
        dead = loss_at (end.Stops Dead) old.lost.dead counts.lost.dead are.lost.dead new.lost.dead;
        wrong = loss_at (end.Stops Wrong) old.lost.wrong counts.lost.wrong are.lost.wrong new.lost.wrong;
        discard = discard_at old.lost.discard are.lost.discard;
        looping = loss_at end.Loops old.lost.looping counts.lost.looping are.lost.looping new.lost.looping;
      };
      all = (let before = are.all in let more = new.all in omega arith);
    }

  -- with a level that they do not have
  pub counts_without : (level : ℕ) (counts : LaneCounts) → (bit_at told level ≡ 1 → ⊥) → AreCountsOf fabric tables lanes (Below level) counts → AreCountsOf fabric tables lanes (Below (level + 1)) counts
  counts_without level counts not are = counts_same fabric tables lanes (Below level) (Below (level + 1)) (λ route below. (below.0, (let less = below.1 in omega arith))) counts
      (λ route below. elim (cases_eq route.level level) [
        | inl here ↦ absurd (not (ap (bit_at told) (sym here) ∙ below.0.has.1))
        | inr other ↦ (below.0, (let less = below.1 in omega arith))
      ]) are

  -- with all sixteen
  pub counts_of_all : (counts : LaneCounts) → AreCountsOf fabric tables lanes (Below 16) counts → AreCountsOf fabric tables lanes IsRoute counts
  counts_of_all counts are = counts_same fabric tables lanes (Below 16) IsRoute (λ route below. below.0) counts (λ route is. (is, is.has.0)) are

-- all pairs are silent, or none is
pub all_silent : (fabric : FabricOf) (tables : TablesOf) (traffic : Traffic) (count : ℕ) → IsCountOf (IsOf fabric tables traffic) count → IsCountOf (IsSilent fabric tables traffic (alike 0)) count
all_silent fabric tables traffic count = count_same Route (IsOf fabric tables traffic) (IsSilent fabric tables traffic (alike 0)) count
    (λ pair sends. record { sends = sends; none = λ level has. absurd (let no = bit_at-zero level in let bit = has.1 in omega arith) }) (λ pair silent. silent.sends)

pub none_silent : (fabric : FabricOf) (tables : TablesOf) (traffic : Traffic) (told : ℕ) → told ≢ 0 → told < 2 ^ 16 → IsCountOf (IsSilent fabric tables traffic (alike told)) 0
none_silent fabric tables traffic told some small = count_none Route (IsSilent fabric tables traffic (alike told)) (λ pair silent. (let low = bit_at-trailing_zeros w16 told (omega arith) small in silent.none (trailing_zeros w16 told) (low.0, low.1)))

pub alike_silent : (fabric : FabricOf) (tables : TablesOf) (traffic : Traffic) (told pairs silent : ℕ) → told < 2 ^ 16 → (told ≡ 0 → silent ≡ pairs) → (told ≢ 0 → silent ≡ 0) → IsCountOf (IsOf fabric tables traffic) pairs → IsCountOf (IsSilent fabric tables traffic (alike told)) silent
alike_silent fabric tables traffic told pairs silent small all none count = elim (cases_eq told 0) [
  | inl zero ↦ subst (λ (n : ℕ). IsCountOf (IsSilent fabric tables traffic (alike told)) n) (sym (all zero)) (subst (λ (t : ℕ). IsCountOf (IsSilent fabric tables traffic (alike t)) pairs) (sym zero) (all_silent fabric tables traffic pairs count))
  | inr some ↦ subst (λ (n : ℕ). IsCountOf (IsSilent fabric tables traffic (alike told)) n) (sym (none some)) (none_silent fabric tables traffic told some small)
]

pub none_below : (fabric : FabricOf) (tables : TablesOf) (traffic : Traffic) (told : ℕ) (route : LaneRoute) → IsBelow fabric tables traffic told 0 route → ⊥
none_below fabric tables traffic told route below = absurd (let less = below.1 in omega arith)
