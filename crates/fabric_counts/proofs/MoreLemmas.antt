-- Counts of more routes: of the same ones, of one more, and of more that all arrive.
use Rattle.std.proofs.Common.{◌≡◌, ◌≢◌, ◌∙◌, sym, ap, subst, refl, ℕ, ◌+◌, ◌≤◌, ◌⊎◌, Option, Some, None, arith, inl, inr, max}
use Rattle.std.specs.Prelude.{MatchOption}
use Rattle.std.proofs.lemmas.Bool.{cases_lt}
use Rattle.fabric_tables.specs.Cells.{TablesOf}
use Rattle.fabric_counts.specs.Counts.{AreCountsOf, AreLosses, AreMostHops, IsLeastLost, IsLoss, IsOneThat, IsOneThatArrives, IsOneToNobody, Route, RouteEnds, RouteIsLost, route_of, sum_of}
use Rattle.fabric_routes.specs.Counting.{IsCountOf}
use Rattle.fabric_counts.specs.declared.counts.Counts.{Counts}
use Rattle.fabric_counts.specs.declared.counts.Loss.{Loss}
use Rattle.fabric_counts.specs.declared.counts.Losses.{Losses}
use Rattle.fabric_counts.specs.declared.counts.LostRoute.{LostRoute}
use Rattle.fabric_counts.specs.Steps.{IsLesser, unowned_of}
use Rattle.fabric_routes.proofs.CountLemmas.{count_more, count_none, count_same, count_sum}
use Rattle.fabric_counts.proofs.EndLemmas.{one_outcome}
use Rattle.fabric_model.specs.declared.node.EndPort.{EndPort}
use Rattle.fabric_model.specs.Fabric.{FabricOf, guid_of, owner_of}
use Rattle.fabric_routes.specs.declared.hop.Cause.TheVariants.{Missing, Dead, Wrong}
use Rattle.fabric_routes.specs.declared.hop.Outcome.{Outcome}
use Rattle.fabric_routes.specs.declared.hop.Outcome.TheVariants.{Arrives, Stops, Loops}

-- the counts of nothing
pub no_loss : (fabric : FabricOf) (tables : TablesOf) (Is : Route → Type 0) → ((route : Route) → Is route → ⊥) → (outcome : Outcome) → IsLoss fabric tables Is outcome (record { count = 0; least = None })
no_loss fabric tables Is none outcome = record {
  count = count_none Route (IsOneThat fabric tables Is outcome) (λ route one. none route one.0);
  least = λ route one. none route one.0;
}

module _ (fabric : FabricOf) (tables : TablesOf) (Is More : Route → Type 0) (to : (route : Route) → Is route → More route) where
  -- a loss stays if no route more ends so
  module _ (outcome : Outcome) (old : (route : Route) → IsOneThat fabric tables More outcome route → Is route) where
    least_same : (told : Option LostRoute) → MatchOption told ((route : Route) → IsOneThat fabric tables Is outcome route → ⊥) (IsLeastLost fabric tables Is outcome) → MatchOption told ((route : Route) → IsOneThat fabric tables More outcome route → ⊥) (IsLeastLost fabric tables More outcome)
    least_same None none = λ route one. none route (old route one, one.1)
    least_same (Some found) is = record {
      is = (to (route_of found) is.is.0, is.is.1);
      at = is.at;
      least = λ other one. is.least other (old other one, one.1);
      first = λ other one same. is.first other (old other one, one.1) same;
    }

    pub loss_same : (loss : Loss) → IsLoss fabric tables Is outcome loss → IsLoss fabric tables More outcome loss
    loss_same loss is = record {
      count = count_same Route (IsOneThat fabric tables Is outcome) (IsOneThat fabric tables More outcome) loss.count (λ route one. (to route one.0, one.1)) (λ route one. (old route one, one.1)) is.count;
      least = least_same loss.least is.least;
    }

  -- the counts of the same routes
  pub counts_same : (counts : Counts) → ((route : Route) → More route → Is route) → AreCountsOf fabric tables Is counts → AreCountsOf fabric tables More counts
  counts_same counts from are = record {
    routes = count_same Route Is More counts.routes to from are.routes;
    arrived = count_same Route (IsOneThatArrives fabric tables Is) (IsOneThatArrives fabric tables More) counts.arrived (λ route one. (one.0, (to route one.1.0, one.1.1))) (λ route one. (one.0, (from route one.1.0, one.1.1))) are.arrived;
    unowned = count_same Route (IsOneToNobody fabric tables Is) (IsOneToNobody fabric tables More) counts.unowned (λ route one. ((one.0.0, (to route one.0.1.0, one.0.1.1)), one.1)) (λ route one. ((one.0.0, (from route one.0.1.0, one.0.1.1)), one.1)) are.unowned;
    hops = record {
      most = λ route switches one. are.hops.most route switches (from route one.0, one.1);
      some = λ not_none. (let one = are.hops.some not_none in (one.0, (to one.0 one.1.0, one.1.1)));
    };
    lost = record {
      missing = loss_same (Stops Missing) (λ route one. from route one.0) counts.lost.missing are.lost.missing;
      dead = loss_same (Stops Dead) (λ route one. from route one.0) counts.lost.dead are.lost.dead;
      wrong = loss_same (Stops Wrong) (λ route one. from route one.0) counts.lost.wrong are.lost.wrong;
      looping = loss_same Loops (λ route one. from route one.0) counts.lost.looping are.lost.looping;
    };
    all = are.all;
  }

  -- one route more
  module _ (lid : ℕ) (source : EndPort) (back : (route : Route) → More route → Is route ⊎ (route ≡ record { lid = lid; source = source })) (is_new : More (record { lid = lid; source = source })) (fresh : Is (record { lid = lid; source = source }) → ⊥) (late : (route : Route) → Is route → route.lid ≤ lid) (outcome : Outcome) (ends : RouteEnds fabric tables (record { lid = lid; source = source }) outcome) where
    abbrev new : Route
    new = record { lid = lid; source = source }

    -- it does not end otherwise
    not_new : (other : Outcome) → other ≢ outcome → (route : Route) → IsOneThat fabric tables More other route → Is route
    not_new other differs route one = elim (back route one.0) [
      | inl is ↦ is
      | inr same ↦ absurd (differs (one_outcome fabric tables new other outcome (subst (λ (r : Route). RouteEnds fabric tables r other) same one.1) ends))
    ]

    pub routes_more : (count : ℕ) → IsCountOf Is count → IsCountOf More (count + 1)
    routes_more count is = count_more Route Is More new count to back is_new fresh is

    pub other_loss : (other : Outcome) (loss : Loss) → other ≢ outcome → IsLoss fabric tables Is other loss → IsLoss fabric tables More other loss
    other_loss other loss differs is = loss_same other (not_new other differs) loss is

    count_ends : (count : ℕ) → IsCountOf (IsOneThat fabric tables Is outcome) count → IsCountOf (IsOneThat fabric tables More outcome) (count + 1)
    count_ends count is = count_more Route (IsOneThat fabric tables Is outcome) (IsOneThat fabric tables More outcome) new count
        (λ route one. (to route one.0, one.1))
        (λ route one. elim (back route one.0) [ inl old ↦ inl (old, one.1) | inr same ↦ inr same ])
        (is_new, ends) (λ one. fresh one.0) is

    -- the least one stays
    pub loss_kept : (count : ℕ) (loss : Loss) (told : LostRoute) → count ≡ loss.count + 1 → loss.least ≡ Some told → (told.lid ≡ lid → guid_of fabric told.source ≤ guid_of fabric source) → IsLoss fabric tables Is outcome loss → IsLoss fabric tables More outcome (record { count = count; least = loss.least })
    loss_kept count loss told more is_told no_less is =
        let least = subst (λ (o : Option LostRoute). MatchOption o ((route : Route) → IsOneThat fabric tables Is outcome route → ⊥) (IsLeastLost fabric tables Is outcome)) is_told is.least in
        let kept : IsLeastLost fabric tables More outcome told = record {
          is = (to (route_of told) least.is.0, least.is.1);
          at = least.at;
          least = λ other one. elim (back other one.0) [
            | inl old ↦ least.least other (old, one.1)
            | inr same ↦ subst (λ (r : Route). told.lid ≤ r.lid) (sym same) (late (route_of told) least.is.0)
          ];
          first = λ other one same_lid. elim (back other one.0) [
            | inl old ↦ least.first other (old, one.1) same_lid
            | inr same ↦ (
                let e : lid ≡ told.lid = sym (ap (λ (r : Route). r.lid) same) ∙ same_lid in
                subst (λ (r : Route). guid_of fabric told.source ≤ guid_of fabric r.source) (sym same) (no_less (sym e)))
          ];
        } in
        record {
          count = subst (λ (n : ℕ). IsCountOf (IsOneThat fabric tables More outcome) n) (sym more) (count_ends loss.count is.count);
          least = subst (λ (o : Option LostRoute). MatchOption o ((route : Route) → IsOneThat fabric tables More outcome route → ⊥) (IsLeastLost fabric tables More outcome)) (sym is_told) kept;
        }

    -- or the route is the least one
    least_new : (told : Option LostRoute) → IsLesser fabric told lid source → MatchOption told ((route : Route) → IsOneThat fabric tables Is outcome route → ⊥) (IsLeastLost fabric tables Is outcome) → (at : ℕ) → RouteIsLost fabric tables new outcome at → IsLeastLost fabric tables More outcome (record { lid = lid; source = source; at = at })
    least_new None lesser none at lost = record {
      is = (is_new, ends);
      at = lost;
      least = λ other one. elim (back other one.0) [
        | inl old ↦ absurd (none other (old, one.1))
        | inr same ↦ (let e : other.lid ≡ lid = ap (λ (r : Route). r.lid) same in omega arith)
      ];
      first = λ other one same_lid. elim (back other one.0) [
        | inl old ↦ absurd (none other (old, one.1))
        | inr same ↦ subst (λ (r : Route). guid_of fabric source ≤ guid_of fabric r.source) (sym same) (omega arith)
      ];
    }
    least_new (Some told) (same_lid, less) least at lost = record {
      is = (is_new, ends);
      at = lost;
      least = λ other one. elim (back other one.0) [
        | inl old ↦ (let le = least.least other (old, one.1) in omega arith)
        | inr same ↦ (let e : other.lid ≡ lid = ap (λ (r : Route). r.lid) same in omega arith)
      ];
      first = λ other one other_lid. elim (back other one.0) [
        | inl old ↦ (let le = least.first other (old, one.1) (omega arith) in omega arith)
        | inr same ↦ subst (λ (r : Route). guid_of fabric source ≤ guid_of fabric r.source) (sym same) (omega arith)
      ];
    }

    pub loss_new : (count : ℕ) (loss : Loss) (at : ℕ) → count ≡ loss.count + 1 → IsLesser fabric loss.least lid source → RouteIsLost fabric tables new outcome at → IsLoss fabric tables Is outcome loss → IsLoss fabric tables More outcome (record { count = count; least = Some (record { lid = lid; source = source; at = at }) })
    loss_new count loss at more lesser lost is = record {
      count = subst (λ (n : ℕ). IsCountOf (IsOneThat fabric tables More outcome) n) (sym more) (count_ends loss.count is.count);
      least = least_new loss.least lesser is.least at lost;
    }

    -- it arrives
    pub arrived_more : (switches count : ℕ) → outcome ≡ Arrives switches → IsCountOf (IsOneThatArrives fabric tables Is) count → IsCountOf (IsOneThatArrives fabric tables More) (count + 1)
    arrived_more switches count is_outcome is = count_more Route (IsOneThatArrives fabric tables Is) (IsOneThatArrives fabric tables More) new count
        (λ route one. (one.0, (to route one.1.0, one.1.1)))
        (λ route one. elim (back route one.1.0) [ inl old ↦ inl (one.0, (old, one.1.1)) | inr same ↦ inr same ])
        (switches, (is_new, subst (RouteEnds fabric tables new) is_outcome ends)) (λ one. fresh one.1.0) is

    -- to nobody, or to the owner of the LID
    pub unowned_more : (owner : Option EndPort) → owner_of fabric lid ≡ owner → (switches count : ℕ) → outcome ≡ Arrives switches → IsCountOf (IsOneToNobody fabric tables Is) count → IsCountOf (IsOneToNobody fabric tables More) (count + unowned_of owner 1)
    unowned_more None owns switches count is_outcome is = count_more Route (IsOneToNobody fabric tables Is) (IsOneToNobody fabric tables More) new count
        (λ route one. ((one.0.0, (to route one.0.1.0, one.0.1.1)), one.1))
        (λ route one. elim (back route one.0.1.0) [ inl old ↦ inl ((one.0.0, (old, one.0.1.1)), one.1) | inr same ↦ inr same ])
        ((switches, (is_new, subst (RouteEnds fabric tables new) is_outcome ends)), owns) (λ one. fresh one.0.1.0) is
    unowned_more (Some owner) owns switches count is_outcome is = subst (λ (n : ℕ). IsCountOf (IsOneToNobody fabric tables More) n) (let e : count ≡ count + 0 = omega arith in e)
        (count_same Route (IsOneToNobody fabric tables Is) (IsOneToNobody fabric tables More) count
        (λ route one. ((one.0.0, (to route one.0.1.0, one.0.1.1)), one.1))
        (λ route one. elim (back route one.0.1.0) [
          | inl old ↦ ((one.0.0, (old, one.0.1.1)), one.1)
          | inr same ↦ absurd (let none = one.1 in let by_route : owner_of fabric route.lid ≡ owner_of fabric lid = ap (λ (r : Route). owner_of fabric r.lid) same in cc)
        ]) is)

    pub hops_more : (switches hops most : ℕ) → outcome ≡ Arrives switches → most ≡ max hops switches → AreMostHops fabric tables Is hops → AreMostHops fabric tables More most
    hops_more switches hops most is_outcome is_most are = record {
      most = λ route others one. elim (back route one.0) [
        | inl old ↦ (let le = are.most route others (old, one.1) in omega arith)
        | inr same ↦ (
            let e : Arrives others ≡ Arrives switches = one_outcome fabric tables new (Arrives others) outcome (subst (λ (r : Route). RouteEnds fabric tables r (Arrives others)) same one.1) ends ∙ is_outcome in
            let n : others ≡ switches = cc in
            omega arith)
      ];
      some = λ not_none. elim (cases_lt switches hops) [
        | inl less ↦ (
            let e : hops ≡ most = omega arith in
            let one = are.some (λ none. not_none (sym e ∙ none)) in
            subst (λ (n : ℕ). (route : Route) × IsOneThat fabric tables More (Arrives n) route) e (one.0, (to one.0 one.1.0, one.1.1)))
        | inr no_less ↦ (
            let e : switches ≡ most = omega arith in
            subst (λ (n : ℕ). (route : Route) × IsOneThat fabric tables More (Arrives n) route) e (new, (is_new, subst (RouteEnds fabric tables new) is_outcome ends)))
      ];
    }

    -- it does not arrive
    pub arrived_same : (count : ℕ) → ((switches : ℕ) → Arrives switches ≢ outcome) → IsCountOf (IsOneThatArrives fabric tables Is) count → IsCountOf (IsOneThatArrives fabric tables More) count
    arrived_same count differs is = count_same Route (IsOneThatArrives fabric tables Is) (IsOneThatArrives fabric tables More) count
        (λ route one. (one.0, (to route one.1.0, one.1.1)))
        (λ route one. (one.0, (not_new (Arrives one.0) (differs one.0) route one.1, one.1.1))) is

    pub unowned_same : (count : ℕ) → ((switches : ℕ) → Arrives switches ≢ outcome) → IsCountOf (IsOneToNobody fabric tables Is) count → IsCountOf (IsOneToNobody fabric tables More) count
    unowned_same count differs is = count_same Route (IsOneToNobody fabric tables Is) (IsOneToNobody fabric tables More) count
        (λ route one. ((one.0.0, (to route one.0.1.0, one.0.1.1)), one.1))
        (λ route one. ((one.0.0, (not_new (Arrives one.0.0) (differs one.0.0) route one.0.1, one.0.1.1)), one.1)) is

    pub hops_same : (hops : ℕ) → ((switches : ℕ) → Arrives switches ≢ outcome) → AreMostHops fabric tables Is hops → AreMostHops fabric tables More hops
    hops_same hops differs are = record {
      most = λ route switches one. are.most route switches (not_new (Arrives switches) (differs switches) route one, one.1);
      some = λ not_none. (let one = are.some not_none in (one.0, (to one.0 one.1.0, one.1.1)));
    }

    -- all counts
    pub counts_arrive : (switches most : ℕ) (counts : Counts) → outcome ≡ Arrives switches → most ≡ max counts.hops switches → AreCountsOf fabric tables Is counts → AreCountsOf fabric tables More (record { routes = counts.routes + 1; arrived = counts.arrived + 1; unowned = counts.unowned + unowned_of (owner_of fabric lid) 1; hops = most; lost = counts.lost })
    counts_arrive switches most counts is_outcome is_most are = record {
      routes = routes_more counts.routes are.routes;
      arrived = arrived_more switches counts.arrived is_outcome are.arrived;
      unowned = unowned_more (owner_of fabric lid) refl switches counts.unowned is_outcome are.unowned;
      hops = hops_more switches counts.hops most is_outcome is_most are.hops;
      lost = record {
        missing = other_loss (Stops Missing) counts.lost.missing (λ e. (let f = e ∙ is_outcome in absurd (cc))) are.lost.missing;
        dead = other_loss (Stops Dead) counts.lost.dead (λ e. (let f = e ∙ is_outcome in absurd (cc))) are.lost.dead;
        wrong = other_loss (Stops Wrong) counts.lost.wrong (λ e. (let f = e ∙ is_outcome in absurd (cc))) are.lost.wrong;
        looping = other_loss Loops counts.lost.looping (λ e. (let f = e ∙ is_outcome in absurd (cc))) are.lost.looping;
      };
      all = (let all = are.all in omega arith);
    }

    pub counts_lost : (counts : Counts) (lost : Losses) → ((switches : ℕ) → Arrives switches ≢ outcome) → sum_of lost ≡ sum_of counts.lost + 1 → AreLosses fabric tables More lost → AreCountsOf fabric tables Is counts → AreCountsOf fabric tables More (record { routes = counts.routes + 1; arrived = counts.arrived; unowned = counts.unowned; hops = counts.hops; lost = lost })
    counts_lost counts lost differs sum losses are = record {
      routes = routes_more counts.routes are.routes;
      arrived = arrived_same counts.arrived differs are.arrived;
      unowned = unowned_same counts.unowned differs are.unowned;
      hops = hops_same counts.hops differs are.hops;
      lost = losses;
      all = (let all = are.all in omega arith);
    }

-- more routes, which all arrive
module _ (fabric : FabricOf) (tables : TablesOf) (Is New More : Route → Type 0) (to : (route : Route) → Is route → More route) (add : (route : Route) → New route → More route) (back : (route : Route) → More route → Is route ⊎ New route) (apart : (route : Route) → Is route → New route → ⊥) (hops : ℕ) (all : (route : Route) → New route → (switches : ℕ) × RouteEnds fabric tables route (Arrives switches) × (switches ≤ hops)) (some : hops ≢ 0 → (route : Route) × New route × RouteEnds fabric tables route (Arrives hops)) where
  no_new : (outcome : Outcome) → ((switches : ℕ) → Arrives switches ≢ outcome) → (route : Route) → IsOneThat fabric tables More outcome route → Is route
  no_new outcome differs route one = elim (back route one.0) [
    | inl is ↦ is
    | inr new ↦ (let arrives = all route new in absurd (differs arrives.0 (one_outcome fabric tables route (Arrives arrives.0) outcome arrives.1 one.1)))
  ]

  all_arrived : (m n : ℕ) → IsCountOf (IsOneThatArrives fabric tables Is) m → IsCountOf New n → IsCountOf (IsOneThatArrives fabric tables More) (m + n)
  all_arrived m n is new = count_sum Route (IsOneThatArrives fabric tables Is) New (IsOneThatArrives fabric tables More) m n
      (λ route one. (one.0, (to route one.1.0, one.1.1)))
      (λ route one. (let arrives = all route one in (arrives.0, (add route one, arrives.1))))
      (λ route one. elim (back route one.1.0) [ inl old ↦ inl (one.0, (old, one.1.1)) | inr now ↦ inr now ])
      (λ route one now. apart route one.1.0 now) is new

  all_unowned : (owner : Option EndPort) → ((route : Route) → New route → owner_of fabric route.lid ≡ owner) → (m n : ℕ) → IsCountOf (IsOneToNobody fabric tables Is) m → IsCountOf New n → IsCountOf (IsOneToNobody fabric tables More) (m + unowned_of owner n)
  all_unowned None owners m n is new = count_sum Route (IsOneToNobody fabric tables Is) New (IsOneToNobody fabric tables More) m n
      (λ route one. ((one.0.0, (to route one.0.1.0, one.0.1.1)), one.1))
      (λ route one. (let arrives = all route one in ((arrives.0, (add route one, arrives.1)), owners route one)))
      (λ route one. elim (back route one.0.1.0) [ inl old ↦ inl ((one.0.0, (old, one.0.1.1)), one.1) | inr now ↦ inr now ])
      (λ route one now. apart route one.0.1.0 now) is new
  all_unowned (Some owner) owners m n is new = subst (λ (k : ℕ). IsCountOf (IsOneToNobody fabric tables More) k) (let e : m ≡ m + 0 = omega arith in e)
      (count_same Route (IsOneToNobody fabric tables Is) (IsOneToNobody fabric tables More) m
      (λ route one. ((one.0.0, (to route one.0.1.0, one.0.1.1)), one.1))
      (λ route one. elim (back route one.0.1.0) [
        | inl old ↦ ((one.0.0, (old, one.0.1.1)), one.1)
        | inr now ↦ absurd (let none = one.1 in let owned = owners route now in cc)
      ]) is)

  all_hops : (before most : ℕ) → most ≡ max before hops → AreMostHops fabric tables Is before → AreMostHops fabric tables More most
  all_hops before most is_most are = record {
    most = λ route switches one. elim (back route one.0) [
      | inl old ↦ (let le = are.most route switches (old, one.1) in omega arith)
      | inr now ↦ (
          let arrives = all route now in
          let e = one_outcome fabric tables route (Arrives switches) (Arrives arrives.0) one.1 arrives.1 in
          let n : switches ≡ arrives.0 = cc in
          let le = arrives.2 in
          omega arith)
    ];
    some = λ not_none. elim (cases_lt hops before) [
      | inl less ↦ (
          let e : before ≡ most = omega arith in
          let one = are.some (λ none. not_none (sym e ∙ none)) in
          subst (λ (n : ℕ). (route : Route) × IsOneThat fabric tables More (Arrives n) route) e (one.0, (to one.0 one.1.0, one.1.1)))
      | inr no_less ↦ (
          let e : hops ≡ most = omega arith in
          let one = some (λ none. not_none (sym e ∙ none)) in
          subst (λ (n : ℕ). (route : Route) × IsOneThat fabric tables More (Arrives n) route) e (one.0, (add one.0 one.1, one.2)))
    ];
  }

  pub counts_all_arrive : (owner : Option EndPort) → ((route : Route) → New route → owner_of fabric route.lid ≡ owner) → (counts : Counts) (routes most : ℕ) → most ≡ max counts.hops hops → IsCountOf New routes → AreCountsOf fabric tables Is counts → AreCountsOf fabric tables More (record { routes = counts.routes + routes; arrived = counts.arrived + routes; unowned = counts.unowned + unowned_of owner routes; hops = most; lost = counts.lost })
  counts_all_arrive owner owners counts routes most is_most new are = record {
    routes = count_sum Route Is New More counts.routes routes to add back apart are.routes new;
    arrived = all_arrived counts.arrived routes are.arrived new;
    unowned = all_unowned owner owners counts.unowned routes are.unowned new;
    hops = all_hops counts.hops most is_most are.hops;
    lost = record {
      missing = loss_same fabric tables Is More to (Stops Missing) (no_new (Stops Missing) (λ s e. absurd (cc))) counts.lost.missing are.lost.missing;
      dead = loss_same fabric tables Is More to (Stops Dead) (no_new (Stops Dead) (λ s e. absurd (cc))) counts.lost.dead are.lost.dead;
      wrong = loss_same fabric tables Is More to (Stops Wrong) (no_new (Stops Wrong) (λ s e. absurd (cc))) counts.lost.wrong are.lost.wrong;
      looping = loss_same fabric tables Is More to Loops (no_new Loops (λ s e. absurd (cc))) counts.lost.looping are.lost.looping;
    };
    all = (let sum = are.all in omega arith);
  }
