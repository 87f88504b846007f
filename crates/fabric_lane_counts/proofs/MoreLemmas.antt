-- Counts of more routes with a level: of the same ones, and of one more.
use Rattle.std.proofs.Common.{◌≡◌, ◌≢◌, ◌∙◌, sym, ap, refl, subst, ℕ, ◌+◌, ◌≤◌, ◌⊎◌, Option, Some, None, arith, inl, inr, max}
use Rattle.std.specs.Prelude.{MatchOption}
use Rattle.std.proofs.lemmas.Bool.{cases_lt}
use Rattle.fabric_tables.specs.Cells.{TablesOf}
use Rattle.fabric_counts.specs.Steps.{unowned_of}
use Rattle.fabric_lane_counts.specs.declared.counts.LaneCounts.{LaneCounts}
use Rattle.fabric_lane_counts.specs.declared.counts.LaneLoss.{LaneLoss}
use Rattle.fabric_lane_counts.specs.declared.counts.LaneLosses.{LaneLosses}
use Rattle.fabric_lane_counts.specs.declared.counts.LostLaneRoute.{LostLaneRoute}
use Rattle.fabric_lane_counts.specs.LaneCounts.{AreCountsOf, AreLosses, AreMostHops, IsLeastLost, IsLoss, IsOneThat, IsOneThatArrives, IsOneToNobody, LaneRoute, LaneRouteEnds, LaneRouteIsLost, lane_route_of, lane_sum_of}
use Rattle.fabric_lane_counts.specs.Steps.{IsLesser}
use Rattle.fabric_lane_counts.proofs.EndLemmas.{one_outcome}
use Rattle.fabric_lane_routes.specs.declared.hop.LaneOutcome.{LaneOutcome}
use Rattle.fabric_lane_routes.specs.declared.hop.LaneOutcome.TheVariants.{Arrives, Stops, Discards, Loops}
use Rattle.fabric_model.specs.declared.node.EndPort.{EndPort}
use Rattle.fabric_model.specs.Fabric.{FabricOf, guid_of, owner_of}
use Rattle.fabric_routes.specs.Counting.{IsCountOf}
use Rattle.fabric_routes.specs.declared.hop.Cause.TheVariants.{Missing, Dead, Wrong}
use Rattle.fabric_routes.proofs.CountLemmas.{count_more, count_none, count_same, count_sum}
use Rattle.fabric_lane_tables.specs.Lanes.{LanesOf}

-- the counts of nothing
pub no_loss : (fabric : FabricOf) (tables : TablesOf) (lanes : LanesOf) (Is : LaneRoute → Type 0) → ((route : LaneRoute) → Is route → ⊥) → (outcome : LaneOutcome) → IsLoss fabric tables lanes Is outcome (record { count = 0; least = None })
no_loss fabric tables lanes Is none outcome = record {
  count = count_none LaneRoute (IsOneThat fabric tables lanes Is outcome) (λ route one. none route one.0);
  least = λ route one. none route one.0;
}

pub no_counts : (fabric : FabricOf) (tables : TablesOf) (lanes : LanesOf) (Is : LaneRoute → Type 0) → ((route : LaneRoute) → Is route → ⊥) → AreCountsOf fabric tables lanes Is (record {
  routes = 0;
  arrived = 0;
  unowned = 0;
  hops = 0;
  lost = record {
    missing = record { count = 0; least = None };
    dead = record { count = 0; least = None };
    wrong = record { count = 0; least = None };
    discard = record { count = 0; least = None };
    looping = record { count = 0; least = None };
  };
  silent = 0;
})
no_counts fabric tables lanes Is none = record {
  routes = count_none LaneRoute Is none;
  arrived = count_none LaneRoute (IsOneThatArrives fabric tables lanes Is) (λ route one. none route one.1.0);
  unowned = count_none LaneRoute (IsOneToNobody fabric tables lanes Is) (λ route one. none route one.0.1.0);
  hops = record {
    most = λ route switches one. absurd (none route one.0);
    some = λ not_none. absurd (not_none refl);
  };
  lost = record {
    missing = no_loss fabric tables lanes Is none (Stops Missing);
    dead = no_loss fabric tables lanes Is none (Stops Dead);
    wrong = no_loss fabric tables lanes Is none (Stops Wrong);
    discard = no_loss fabric tables lanes Is none Discards;
    looping = no_loss fabric tables lanes Is none Loops;
  };
  all = refl;
}

module _ (fabric : FabricOf) (tables : TablesOf) (lanes : LanesOf) (Is More : LaneRoute → Type 0) (to : (route : LaneRoute) → Is route → More route) where
  -- a loss stays if no route more ends so
  module _ (outcome : LaneOutcome) (old : (route : LaneRoute) → IsOneThat fabric tables lanes More outcome route → Is route) where
    least_same : (told : Option LostLaneRoute) → MatchOption told ((route : LaneRoute) → IsOneThat fabric tables lanes Is outcome route → ⊥) (IsLeastLost fabric tables lanes Is outcome) → MatchOption told ((route : LaneRoute) → IsOneThat fabric tables lanes More outcome route → ⊥) (IsLeastLost fabric tables lanes More outcome)
    least_same None none = λ route one. none route (old route one, one.1)
    least_same (Some found) is = record {
      is = (to (lane_route_of found) is.is.0, is.is.1);
      at = is.at;
      least = λ other one. is.least other (old other one, one.1);
      first = λ other one same. is.first other (old other one, one.1) same;
      lowest = λ other one same here. is.lowest other (old other one, one.1) same here;
    }

    pub loss_same : (loss : LaneLoss) → IsLoss fabric tables lanes Is outcome loss → IsLoss fabric tables lanes More outcome loss
    loss_same loss is = record {
      count = count_same LaneRoute (IsOneThat fabric tables lanes Is outcome) (IsOneThat fabric tables lanes More outcome) loss.count (λ route one. (to route one.0, one.1)) (λ route one. (old route one, one.1)) is.count;
      least = least_same loss.least is.least;
    }

  -- those to LIDs that nobody owns stay if none of these arrives more
  pub unowned_same : (count : ℕ) → ((route : LaneRoute) → IsOneToNobody fabric tables lanes More route → Is route) → IsCountOf (IsOneToNobody fabric tables lanes Is) count → IsCountOf (IsOneToNobody fabric tables lanes More) count
  unowned_same count old is = count_same LaneRoute (IsOneToNobody fabric tables lanes Is) (IsOneToNobody fabric tables lanes More) count
      (λ route one. ((one.0.0, (to route one.0.1.0, one.0.1.1)), one.1))
      (λ route one. ((one.0.0, (old route one, one.0.1.1)), one.1)) is

  -- the counts of the same routes
  pub counts_same : (counts : LaneCounts) → ((route : LaneRoute) → More route → Is route) → AreCountsOf fabric tables lanes Is counts → AreCountsOf fabric tables lanes More counts
  counts_same counts from are = record {
    routes = count_same LaneRoute Is More counts.routes to from are.routes;
    arrived = count_same LaneRoute (IsOneThatArrives fabric tables lanes Is) (IsOneThatArrives fabric tables lanes More) counts.arrived (λ route one. (one.0, (to route one.1.0, one.1.1))) (λ route one. (one.0, (from route one.1.0, one.1.1))) are.arrived;
    unowned = unowned_same counts.unowned (λ route one. from route one.0.1.0) are.unowned;
    hops = record {
      most = λ route switches one. are.hops.most route switches (from route one.0, one.1);
      some = λ not_none. (let one = are.hops.some not_none in (one.0, (to one.0 one.1.0, one.1.1)));
    };
    lost = record {
      missing = loss_same (Stops Missing) (λ route one. from route one.0) counts.lost.missing are.lost.missing;
      dead = loss_same (Stops Dead) (λ route one. from route one.0) counts.lost.dead are.lost.dead;
      wrong = loss_same (Stops Wrong) (λ route one. from route one.0) counts.lost.wrong are.lost.wrong;
      discard = loss_same Discards (λ route one. from route one.0) counts.lost.discard are.lost.discard;
      looping = loss_same Loops (λ route one. from route one.0) counts.lost.looping are.lost.looping;
    };
    all = are.all;
  }

  -- one route more
  module _ (lid : ℕ) (source : EndPort) (level : ℕ) (back : (route : LaneRoute) → More route → Is route ⊎ (route ≡ record { lid = lid; source = source; level = level })) (is_new : More (record { lid = lid; source = source; level = level })) (fresh : Is (record { lid = lid; source = source; level = level }) → ⊥) (late : (route : LaneRoute) → Is route → route.lid ≤ lid) (lower : (route : LaneRoute) → Is route → route.lid ≡ lid → route.source ≡ source → route.level ≤ level) (outcome : LaneOutcome) (ends : LaneRouteEnds fabric tables lanes (record { lid = lid; source = source; level = level }) outcome) where
    abbrev new : LaneRoute
    new = record { lid = lid; source = source; level = level }

    -- it does not end otherwise
    not_new : (other : LaneOutcome) → other ≢ outcome → (route : LaneRoute) → IsOneThat fabric tables lanes More other route → Is route
    not_new other differs route one = elim (back route one.0) [
      | inl is ↦ is
      | inr same ↦ absurd (differs (one_outcome fabric tables lanes new other outcome (subst (λ (r : LaneRoute). LaneRouteEnds fabric tables lanes r other) same one.1) ends))
    ]

    pub routes_more : (count : ℕ) → IsCountOf Is count → IsCountOf More (count + 1)
    routes_more count is = count_more LaneRoute Is More new count to back is_new fresh is

    pub other_loss : (other : LaneOutcome) (loss : LaneLoss) → other ≢ outcome → IsLoss fabric tables lanes Is other loss → IsLoss fabric tables lanes More other loss
    other_loss other loss differs is = loss_same other (not_new other differs) loss is

    count_ends : (count : ℕ) → IsCountOf (IsOneThat fabric tables lanes Is outcome) count → IsCountOf (IsOneThat fabric tables lanes More outcome) (count + 1)
    count_ends count is = count_more LaneRoute (IsOneThat fabric tables lanes Is outcome) (IsOneThat fabric tables lanes More outcome) new count
        (λ route one. (to route one.0, one.1))
        (λ route one. elim (back route one.0) [ inl old ↦ inl (old, one.1) | inr same ↦ inr same ])
        (is_new, ends) (λ one. fresh one.0) is

    -- the least one stays
    pub loss_kept : (count : ℕ) (loss : LaneLoss) (told : LostLaneRoute) → count ≡ loss.count + 1 → loss.least ≡ Some told → (told.lid ≡ lid → guid_of fabric told.source ≤ guid_of fabric source) → IsLoss fabric tables lanes Is outcome loss → IsLoss fabric tables lanes More outcome (record { count = count; least = loss.least })
    loss_kept count loss told more is_told no_less is =
        let least = subst (λ (o : Option LostLaneRoute). MatchOption o ((route : LaneRoute) → IsOneThat fabric tables lanes Is outcome route → ⊥) (IsLeastLost fabric tables lanes Is outcome)) is_told is.least in
        let kept : IsLeastLost fabric tables lanes More outcome told = record {
          is = (to (lane_route_of told) least.is.0, least.is.1);
          at = least.at;
          least = λ other one. elim (back other one.0) [
            | inl old ↦ least.least other (old, one.1)
            | inr same ↦ subst (λ (r : LaneRoute). told.lid ≤ r.lid) (sym same) (late (lane_route_of told) least.is.0)
          ];
          first = λ other one same_lid. elim (back other one.0) [
            | inl old ↦ least.first other (old, one.1) same_lid
            | inr same ↦ (
                let e : lid ≡ told.lid = sym (ap (λ (r : LaneRoute). r.lid) same) ∙ same_lid in
                subst (λ (r : LaneRoute). guid_of fabric told.source ≤ guid_of fabric r.source) (sym same) (no_less (sym e)))
          ];
          lowest = λ other one same_lid same_source. elim (back other one.0) [
            | inl old ↦ least.lowest other (old, one.1) same_lid same_source
            | inr same ↦ (
                let l : told.lid ≡ lid = sym same_lid ∙ ap (λ (r : LaneRoute). r.lid) same in
                let s : told.source ≡ source = sym same_source ∙ ap (λ (r : LaneRoute). r.source) same in
                subst (λ (r : LaneRoute). told.level ≤ r.level) (sym same) (lower (lane_route_of told) least.is.0 l s))
          ];
        } in
        record {
          count = subst (λ (n : ℕ). IsCountOf (IsOneThat fabric tables lanes More outcome) n) (sym more) (count_ends loss.count is.count);
          least = subst (λ (o : Option LostLaneRoute). MatchOption o ((route : LaneRoute) → IsOneThat fabric tables lanes More outcome route → ⊥) (IsLeastLost fabric tables lanes More outcome)) (sym is_told) kept;
        }

    -- or the route is the least one
    least_new : (told : Option LostLaneRoute) → IsLesser fabric told lid source → MatchOption told ((route : LaneRoute) → IsOneThat fabric tables lanes Is outcome route → ⊥) (IsLeastLost fabric tables lanes Is outcome) → (at : ℕ) → LaneRouteIsLost fabric tables lanes new outcome at → IsLeastLost fabric tables lanes More outcome (record { lid = lid; source = source; level = level; at = at })
    least_new None lesser none at lost = record {
      is = (is_new, ends);
      at = lost;
      least = λ other one. elim (back other one.0) [
        | inl old ↦ absurd (none other (old, one.1))
        | inr same ↦ (let e : other.lid ≡ lid = ap (λ (r : LaneRoute). r.lid) same in omega arith)
      ];
      first = λ other one same_lid. elim (back other one.0) [
        | inl old ↦ absurd (none other (old, one.1))
        | inr same ↦ subst (λ (r : LaneRoute). guid_of fabric source ≤ guid_of fabric r.source) (sym same) (omega arith)
      ];
      lowest = λ other one same_lid same_source. elim (back other one.0) [
        | inl old ↦ absurd (none other (old, one.1))
        | inr same ↦ subst (λ (r : LaneRoute). level ≤ r.level) (sym same) (omega arith)
      ];
    }
    least_new (Some told) (same_lid, less) least at lost = record {
      is = (is_new, ends);
      at = lost;
      least = λ other one. elim (back other one.0) [
        | inl old ↦ (let le = least.least other (old, one.1) in omega arith)
        | inr same ↦ (let e : other.lid ≡ lid = ap (λ (r : LaneRoute). r.lid) same in omega arith)
      ];
      first = λ other one other_lid. elim (back other one.0) [
        | inl old ↦ (let le = least.first other (old, one.1) (omega arith) in omega arith)
        | inr same ↦ subst (λ (r : LaneRoute). guid_of fabric source ≤ guid_of fabric r.source) (sym same) (omega arith)
      ];
      lowest = λ other one other_lid other_source. elim (back other one.0) [
        | inl old ↦ absurd (
            let le = least.first other (old, one.1) (omega arith) in
            let e : guid_of fabric other.source ≡ guid_of fabric source = ap (guid_of fabric) other_source in
            omega arith)
        | inr same ↦ subst (λ (r : LaneRoute). level ≤ r.level) (sym same) (omega arith)
      ];
    }

    pub loss_new : (count : ℕ) (loss : LaneLoss) (at : ℕ) → count ≡ loss.count + 1 → IsLesser fabric loss.least lid source → LaneRouteIsLost fabric tables lanes new outcome at → IsLoss fabric tables lanes Is outcome loss → IsLoss fabric tables lanes More outcome (record { count = count; least = Some (record { lid = lid; source = source; level = level; at = at }) })
    loss_new count loss at more lesser lost is = record {
      count = subst (λ (n : ℕ). IsCountOf (IsOneThat fabric tables lanes More outcome) n) (sym more) (count_ends loss.count is.count);
      least = least_new loss.least lesser is.least at lost;
    }

    -- it arrives
    pub arrived_more : (switches count : ℕ) → outcome ≡ Arrives switches → IsCountOf (IsOneThatArrives fabric tables lanes Is) count → IsCountOf (IsOneThatArrives fabric tables lanes More) (count + 1)
    arrived_more switches count is_outcome is = count_more LaneRoute (IsOneThatArrives fabric tables lanes Is) (IsOneThatArrives fabric tables lanes More) new count
        (λ route one. (one.0, (to route one.1.0, one.1.1)))
        (λ route one. elim (back route one.1.0) [ inl old ↦ inl (one.0, (old, one.1.1)) | inr same ↦ inr same ])
        (switches, (is_new, subst (LaneRouteEnds fabric tables lanes new) is_outcome ends)) (λ one. fresh one.1.0) is

    unowned_more : (owner : Option EndPort) → owner_of fabric lid ≡ owner → (switches count : ℕ) → outcome ≡ Arrives switches → IsCountOf (IsOneToNobody fabric tables lanes Is) count → IsCountOf (IsOneToNobody fabric tables lanes More) (count + unowned_of owner 1)
    unowned_more None nobody switches count is_outcome is = count_more LaneRoute (IsOneToNobody fabric tables lanes Is) (IsOneToNobody fabric tables lanes More) new count
        (λ route one. ((one.0.0, (to route one.0.1.0, one.0.1.1)), one.1))
        (λ route one. elim (back route one.0.1.0) [ inl old ↦ inl ((one.0.0, (old, one.0.1.1)), one.1) | inr same ↦ inr same ])
        ((switches, (is_new, subst (LaneRouteEnds fabric tables lanes new) is_outcome ends)), nobody)
        (λ one. fresh one.0.1.0) is
    unowned_more (Some who) owns switches count is_outcome is = subst (λ (n : ℕ). IsCountOf (IsOneToNobody fabric tables lanes More) n) (let e : count ≡ count + 0 = omega arith in e)
        (unowned_same count (λ route one. elim (back route one.0.1.0) [
          | inl old ↦ old
          | inr same ↦ absurd (let nobody : owner_of fabric lid ≡ None = sym (ap (λ (r : LaneRoute). owner_of fabric r.lid) same) ∙ one.1 in cc)
        ]) is)

    pub hops_more : (switches hops most : ℕ) → outcome ≡ Arrives switches → most ≡ max hops switches → AreMostHops fabric tables lanes Is hops → AreMostHops fabric tables lanes More most
    hops_more switches hops most is_outcome is_most are = record {
      most = λ route others one. elim (back route one.0) [
        | inl old ↦ (let le = are.most route others (old, one.1) in omega arith)
        | inr same ↦ (
            let e : Arrives others ≡ Arrives switches = one_outcome fabric tables lanes new (Arrives others) outcome (subst (λ (r : LaneRoute). LaneRouteEnds fabric tables lanes r (Arrives others)) same one.1) ends ∙ is_outcome in
            let n : others ≡ switches = cc in
            omega arith)
      ];
      some = λ not_none. elim (cases_lt switches hops) [
        | inl less ↦ (
            let e : hops ≡ most = omega arith in
            let one = are.some (λ none. not_none (sym e ∙ none)) in
            subst (λ (n : ℕ). (route : LaneRoute) × IsOneThat fabric tables lanes More (Arrives n) route) e (one.0, (to one.0 one.1.0, one.1.1)))
        | inr no_less ↦ (
            let e : switches ≡ most = omega arith in
            subst (λ (n : ℕ). (route : LaneRoute) × IsOneThat fabric tables lanes More (Arrives n) route) e (new, (is_new, subst (LaneRouteEnds fabric tables lanes new) is_outcome ends)))
      ];
    }

    -- it does not arrive
    pub arrived_same : (count : ℕ) → ((switches : ℕ) → Arrives switches ≢ outcome) → IsCountOf (IsOneThatArrives fabric tables lanes Is) count → IsCountOf (IsOneThatArrives fabric tables lanes More) count
    arrived_same count differs is = count_same LaneRoute (IsOneThatArrives fabric tables lanes Is) (IsOneThatArrives fabric tables lanes More) count
        (λ route one. (one.0, (to route one.1.0, one.1.1)))
        (λ route one. (one.0, (not_new (Arrives one.0) (differs one.0) route one.1, one.1.1))) is

    pub hops_same : (hops : ℕ) → ((switches : ℕ) → Arrives switches ≢ outcome) → AreMostHops fabric tables lanes Is hops → AreMostHops fabric tables lanes More hops
    hops_same hops differs are = record {
      most = λ route switches one. are.most route switches (not_new (Arrives switches) (differs switches) route one, one.1);
      some = λ not_none. (let one = are.some not_none in (one.0, (to one.0 one.1.0, one.1.1)));
    }

    -- all counts
    pub counts_arrive : (switches most : ℕ) (counts : LaneCounts) → outcome ≡ Arrives switches → most ≡ max counts.hops switches → AreCountsOf fabric tables lanes Is counts → AreCountsOf fabric tables lanes More (record { routes = counts.routes + 1; arrived = counts.arrived + 1; unowned = counts.unowned + unowned_of (owner_of fabric lid) 1; hops = most; lost = counts.lost; silent = counts.silent })
    counts_arrive switches most counts is_outcome is_most are = record {
      routes = routes_more counts.routes are.routes;
      arrived = arrived_more switches counts.arrived is_outcome are.arrived;
      unowned = unowned_more (owner_of fabric lid) refl switches counts.unowned is_outcome are.unowned;
      hops = hops_more switches counts.hops most is_outcome is_most are.hops;
      lost = record {
        missing = other_loss (Stops Missing) counts.lost.missing (λ e. (let f = e ∙ is_outcome in absurd (cc))) are.lost.missing;
        dead = other_loss (Stops Dead) counts.lost.dead (λ e. (let f = e ∙ is_outcome in absurd (cc))) are.lost.dead;
        wrong = other_loss (Stops Wrong) counts.lost.wrong (λ e. (let f = e ∙ is_outcome in absurd (cc))) are.lost.wrong;
        discard = other_loss Discards counts.lost.discard (λ e. (let f = e ∙ is_outcome in absurd (cc))) are.lost.discard;
        looping = other_loss Loops counts.lost.looping (λ e. (let f = e ∙ is_outcome in absurd (cc))) are.lost.looping;
      };
      all = (let all = are.all in omega arith);
    }

    pub counts_lost : (counts : LaneCounts) (lost : LaneLosses) → ((switches : ℕ) → Arrives switches ≢ outcome) → lane_sum_of lost ≡ lane_sum_of counts.lost + 1 → AreLosses fabric tables lanes More lost → AreCountsOf fabric tables lanes Is counts → AreCountsOf fabric tables lanes More (record { routes = counts.routes + 1; arrived = counts.arrived; unowned = counts.unowned; hops = counts.hops; lost = lost; silent = counts.silent })
    counts_lost counts lost differs sum losses are = record {
      routes = routes_more counts.routes are.routes;
      arrived = arrived_same counts.arrived differs are.arrived;
      unowned = unowned_same counts.unowned (λ route one. not_new (Arrives one.0.0) (differs one.0.0) route one.0.1) are.unowned;
      hops = hops_same counts.hops differs are.hops;
      lost = losses;
      all = (let all = are.all in omega arith);
    }

-- more routes, which all arrive
module _ (fabric : FabricOf) (tables : TablesOf) (lanes : LanesOf) (Is New More : LaneRoute → Type 0) (to : (route : LaneRoute) → Is route → More route) (add : (route : LaneRoute) → New route → More route) (back : (route : LaneRoute) → More route → Is route ⊎ New route) (apart : (route : LaneRoute) → Is route → New route → ⊥) (hops : ℕ) (all : (route : LaneRoute) → New route → (switches : ℕ) × LaneRouteEnds fabric tables lanes route (Arrives switches) × (switches ≤ hops)) (some : hops ≢ 0 → (route : LaneRoute) × New route × LaneRouteEnds fabric tables lanes route (Arrives hops)) where
  no_new : (outcome : LaneOutcome) → ((switches : ℕ) → Arrives switches ≢ outcome) → (route : LaneRoute) → IsOneThat fabric tables lanes More outcome route → Is route
  no_new outcome differs route one = elim (back route one.0) [
    | inl is ↦ is
    | inr new ↦ (let arrives = all route new in absurd (differs arrives.0 (one_outcome fabric tables lanes route (Arrives arrives.0) outcome arrives.1 one.1)))
  ]

  all_arrived : (m n : ℕ) → IsCountOf (IsOneThatArrives fabric tables lanes Is) m → IsCountOf New n → IsCountOf (IsOneThatArrives fabric tables lanes More) (m + n)
  all_arrived m n is new = count_sum LaneRoute (IsOneThatArrives fabric tables lanes Is) New (IsOneThatArrives fabric tables lanes More) m n
      (λ route one. (one.0, (to route one.1.0, one.1.1)))
      (λ route one. (let arrives = all route one in (arrives.0, (add route one, arrives.1))))
      (λ route one. elim (back route one.1.0) [ inl old ↦ inl (one.0, (old, one.1.1)) | inr now ↦ inr now ])
      (λ route one now. apart route one.1.0 now) is new

  all_hops : (before most : ℕ) → most ≡ max before hops → AreMostHops fabric tables lanes Is before → AreMostHops fabric tables lanes More most
  all_hops before most is_most are = record {
    most = λ route switches one. elim (back route one.0) [
      | inl old ↦ (let le = are.most route switches (old, one.1) in omega arith)
      | inr now ↦ (
          let arrives = all route now in
          let e = one_outcome fabric tables lanes route (Arrives switches) (Arrives arrives.0) one.1 arrives.1 in
          let n : switches ≡ arrives.0 = cc in
          let le = arrives.2 in
          omega arith)
    ];
    some = λ not_none. elim (cases_lt hops before) [
      | inl less ↦ (
          let e : before ≡ most = omega arith in
          let one = are.some (λ none. not_none (sym e ∙ none)) in
          subst (λ (n : ℕ). (route : LaneRoute) × IsOneThat fabric tables lanes More (Arrives n) route) e (one.0, (to one.0 one.1.0, one.1.1)))
      | inr no_less ↦ (
          let e : hops ≡ most = omega arith in
          let one = some (λ none. not_none (sym e ∙ none)) in
          subst (λ (n : ℕ). (route : LaneRoute) × IsOneThat fabric tables lanes More (Arrives n) route) e (one.0, (add one.0 one.1, one.2)))
    ];
  }

  all_unowned : (m n : ℕ) → IsCountOf (IsOneToNobody fabric tables lanes Is) m → IsCountOf (λ route. New route × (owner_of fabric route.lid ≡ None)) n → IsCountOf (IsOneToNobody fabric tables lanes More) (m + n)
  all_unowned m n is new = count_sum LaneRoute (IsOneToNobody fabric tables lanes Is) (λ route. New route × (owner_of fabric route.lid ≡ None)) (IsOneToNobody fabric tables lanes More) m n
      (λ route one. ((one.0.0, (to route one.0.1.0, one.0.1.1)), one.1))
      (λ route one. (let arrives = all route one.0 in ((arrives.0, (add route one.0, arrives.1)), one.1)))
      (λ route one. elim (back route one.0.1.0) [ inl old ↦ inl ((one.0.0, (old, one.0.1.1)), one.1) | inr now ↦ inr (now, one.1) ])
      (λ route one now. apart route one.0.1.0 now.0) is new

  pub counts_all_arrive : (counts : LaneCounts) (routes unowned most : ℕ) → most ≡ max counts.hops hops → IsCountOf New routes → IsCountOf (λ route. New route × (owner_of fabric route.lid ≡ None)) unowned → AreCountsOf fabric tables lanes Is counts → AreCountsOf fabric tables lanes More (record { routes = counts.routes + routes; arrived = counts.arrived + routes; unowned = counts.unowned + unowned; hops = most; lost = counts.lost; silent = counts.silent })
  counts_all_arrive counts routes unowned most is_most new nobody are = record {
    routes = count_sum LaneRoute Is New More counts.routes routes to add back apart are.routes new;
    arrived = all_arrived counts.arrived routes are.arrived new;
    unowned = all_unowned counts.unowned unowned are.unowned nobody;
    hops = all_hops counts.hops most is_most are.hops;
    lost = record {
      missing = loss_same fabric tables lanes Is More to (Stops Missing) (no_new (Stops Missing) (λ s e. absurd (cc))) counts.lost.missing are.lost.missing;
      dead = loss_same fabric tables lanes Is More to (Stops Dead) (no_new (Stops Dead) (λ s e. absurd (cc))) counts.lost.dead are.lost.dead;
      wrong = loss_same fabric tables lanes Is More to (Stops Wrong) (no_new (Stops Wrong) (λ s e. absurd (cc))) counts.lost.wrong are.lost.wrong;
      discard = loss_same fabric tables lanes Is More to Discards (no_new Discards (λ s e. absurd (cc))) counts.lost.discard are.lost.discard;
      looping = loss_same fabric tables lanes Is More to Loops (no_new Loops (λ s e. absurd (cc))) counts.lost.looping are.lost.looping;
    };
    all = (let sum = are.all in omega arith);
  }
