-- How the counts go on.
use Rattle.std.proofs.Common.{◌≡◌, ◌≢◌, ◌∙◌, sym, ap, subst, refl, ℕ, ◌+◌, ◌*◌, ◌^◌, ◌<◌, ◌≤◌, ◌⊎◌, Option, Some, None, arith, length, inl, inr, max}
use Rattle.std.proofs.lemmas.Bool.{cases_lt}
use Rattle.fabric_tables.specs.Cells.{TablesOf}
use Rattle.fabric_counts.specs.Counts.{AreCounts, AreCountsOf, AreLosses, IsLoss, IsLostAt, IsOf, IsOneThatArrives, IsOneToNobody, Route, RouteEnds, hop_for, sum_of}
use Rattle.fabric_routes.specs.Counting.{IsCountOf}
use Rattle.fabric_counts.specs.Steps.{AllArriveWithin, AreCountsUntil, IsEndPort, IsLesser, IsUntil, place_of, unowned_of}
use Rattle.fabric_counts.specs.declared.counts.Counts.{Counts}
use Rattle.fabric_counts.specs.declared.counts.Loss.{Loss}
use Rattle.fabric_counts.specs.declared.counts.Losses.{Losses}
use Rattle.fabric_counts.specs.declared.counts.LostRoute.{LostRoute}
use Rattle.fabric_routes.proofs.CountLemmas.{count_none}
use Rattle.fabric_routes.proofs.StartLemmas.{sender_is}
use Rattle.fabric_counts.proofs.MoreLemmas.{counts_all_arrive, counts_arrive, counts_lost, counts_same, loss_kept, loss_new, no_loss, other_loss}
use Rattle.fabric_counts.proofs.PlaceLemmas.{IsTo, count_to, end_port, until_all, until_fresh, until_from, until_late, until_lids, until_next, until_none, until_not_to, until_or_to, until_silent, until_to, until_to_lid, until_unsent}
use Rattle.fabric_model.specs.declared.node.EndPort.{EndPort}
use Rattle.fabric_model.specs.Fabric.{FabricOf, guid_of, owner_of, start_of, switch_count}
use Rattle.fabric_routes.specs.declared.hop.Cause.TheVariants.{Missing, Dead, Wrong}
use Rattle.fabric_routes.specs.declared.hop.Outcome.{Outcome}
use Rattle.fabric_routes.specs.declared.hop.Outcome.TheVariants.{Arrives, Stops, Loops}
use Rattle.fabric_model.specs.declared.traffic.Traffic.{Traffic}
use Rattle.fabric_routes.specs.Routes.{EndsAs, Sends}

-- a route that is not to be told: another one is, that is no greater
pub kept_told : (fabric : FabricOf) (told : Option LostRoute) (lid : ℕ) (source : EndPort) → (IsLesser fabric told lid source → ⊥) → (one : LostRoute) × (told ≡ Some one) × (one.lid ≡ lid → guid_of fabric one.source ≤ guid_of fabric source)
kept_told fabric None lid source not = absurd (not tt)
kept_told fabric (Some one) lid source not = (
  one,
  refl,
  λ same. elim (cases_lt (guid_of fabric source) (guid_of fabric one.source)) [
    | inl less ↦ absurd (not (same, less))
    | inr no_less ↦ no_less
  ],
)

-- one route more
module _ (fabric : FabricOf) (tables : TablesOf) (traffic : Traffic) (lid : ℕ) (source : EndPort) (sends : Sends fabric tables traffic lid source) (start : ℕ) (begins : start_of fabric source ≡ Some start) (outcome : Outcome) (ends : EndsAs (hop_for fabric tables lid) start outcome) where
  abbrev pub Before : Route → Type 0
  Before = IsUntil fabric tables traffic lid (place_of fabric source)

  abbrev pub With : Route → Type 0
  With = IsUntil fabric tables traffic lid (place_of fabric source + 1)

  to : (route : Route) → Before route → With route
  to = until_to fabric tables traffic lid (place_of fabric source)

  back : (route : Route) → With route → Before route ⊎ (route ≡ record { lid = lid; source = source })
  back = until_from fabric tables traffic lid (place_of fabric source) source (end_port fabric traffic source (sender_is fabric tables traffic lid source sends)) refl

  is_new : With (record { lid = lid; source = source })
  is_new = (sends, inr (refl, omega arith))

  fresh : Before (record { lid = lid; source = source }) → ⊥
  fresh = until_fresh fabric tables traffic lid (place_of fabric source) source refl

  late : (route : Route) → Before route → route.lid ≤ lid
  late = until_late fabric tables traffic lid (place_of fabric source)

  route_ends : RouteEnds fabric tables (record { lid = lid; source = source }) outcome
  route_ends = record { start = start; begins = begins; ends = ends }

  pub told_before : (count : ℕ) (loss : Loss) → count ≡ loss.count + 1 → (IsLesser fabric loss.least lid source → ⊥) → IsLoss fabric tables Before outcome loss → IsLoss fabric tables With outcome (record { count = count; least = loss.least })
  told_before count loss more not is =
      let told = kept_told fabric loss.least lid source not in
      loss_kept fabric tables Before With to lid source back is_new fresh late outcome route_ends count loss told.0 more told.1 told.2 is

  pub told_now : (count : ℕ) (loss : Loss) (at : ℕ) → count ≡ loss.count + 1 → IsLesser fabric loss.least lid source → IsLostAt (hop_for fabric tables lid) start outcome at → IsLoss fabric tables Before outcome loss → IsLoss fabric tables With outcome (record { count = count; least = Some (record { lid = lid; source = source; at = at }) })
  told_now count loss at more lesser lost is = loss_new fabric tables Before With to lid source back is_new fresh late outcome route_ends count loss at more lesser (record { start = start; begins = begins; lost = lost }) is

  other_same : (other : Outcome) (loss : Loss) → other ≢ outcome → IsLoss fabric tables Before other loss → IsLoss fabric tables With other loss
  other_same other loss differs is = other_loss fabric tables Before With to lid source back is_new fresh late outcome route_ends other loss differs is

  module _ (lost : Losses) (loss : Loss) (are : AreLosses fabric tables Before lost) where
    pub missing_more : outcome ≡ Stops Missing → IsLoss fabric tables With (Stops Missing) loss → AreLosses fabric tables With (record { missing = loss; dead = lost.dead; wrong = lost.wrong; looping = lost.looping })
    missing_more is new = record {
      missing = new;
      dead = other_same (Stops Dead) lost.dead (λ e. (let f = e ∙ is in absurd (cc))) are.dead;
      wrong = other_same (Stops Wrong) lost.wrong (λ e. (let f = e ∙ is in absurd (cc))) are.wrong;
      looping = other_same Loops lost.looping (λ e. (let f = e ∙ is in absurd (cc))) are.looping;
    }

    pub dead_more : outcome ≡ Stops Dead → IsLoss fabric tables With (Stops Dead) loss → AreLosses fabric tables With (record { missing = lost.missing; dead = loss; wrong = lost.wrong; looping = lost.looping })
    dead_more is new = record {
      missing = other_same (Stops Missing) lost.missing (λ e. (let f = e ∙ is in absurd (cc))) are.missing;
      dead = new;
      wrong = other_same (Stops Wrong) lost.wrong (λ e. (let f = e ∙ is in absurd (cc))) are.wrong;
      looping = other_same Loops lost.looping (λ e. (let f = e ∙ is in absurd (cc))) are.looping;
    }

    pub wrong_more : outcome ≡ Stops Wrong → IsLoss fabric tables With (Stops Wrong) loss → AreLosses fabric tables With (record { missing = lost.missing; dead = lost.dead; wrong = loss; looping = lost.looping })
    wrong_more is new = record {
      missing = other_same (Stops Missing) lost.missing (λ e. (let f = e ∙ is in absurd (cc))) are.missing;
      dead = other_same (Stops Dead) lost.dead (λ e. (let f = e ∙ is in absurd (cc))) are.dead;
      wrong = new;
      looping = other_same Loops lost.looping (λ e. (let f = e ∙ is in absurd (cc))) are.looping;
    }

    pub looping_more : outcome ≡ Loops → IsLoss fabric tables With Loops loss → AreLosses fabric tables With (record { missing = lost.missing; dead = lost.dead; wrong = lost.wrong; looping = loss })
    looping_more is new = record {
      missing = other_same (Stops Missing) lost.missing (λ e. (let f = e ∙ is in absurd (cc))) are.missing;
      dead = other_same (Stops Dead) lost.dead (λ e. (let f = e ∙ is in absurd (cc))) are.dead;
      wrong = other_same (Stops Wrong) lost.wrong (λ e. (let f = e ∙ is in absurd (cc))) are.wrong;
      looping = new;
    }

  pub one_arrives : (switches most : ℕ) (counts : Counts) (to_nobody : ℕ) → outcome ≡ Arrives switches → most ≡ max counts.hops switches → to_nobody ≡ unowned_of (owner_of fabric lid) 1 → AreCountsOf fabric tables Before counts → AreCountsOf fabric tables With (record { routes = counts.routes + 1; arrived = counts.arrived + 1; unowned = counts.unowned + to_nobody; hops = most; lost = counts.lost })
  one_arrives switches most counts to_nobody is is_most is_unowned are = subst (λ (n : ℕ). AreCountsOf fabric tables With (record { routes = counts.routes + 1; arrived = counts.arrived + 1; unowned = counts.unowned + n; hops = most; lost = counts.lost })) (sym is_unowned)
      (counts_arrive fabric tables Before With to lid source back is_new fresh late outcome route_ends switches most counts is is_most are)

  pub one_lost : (counts : Counts) (lost : Losses) → ((switches : ℕ) → Arrives switches ≢ outcome) → sum_of lost ≡ sum_of counts.lost + 1 → AreLosses fabric tables With lost → AreCountsOf fabric tables Before counts → AreCountsOf fabric tables With (record { routes = counts.routes + 1; arrived = counts.arrived; unowned = counts.unowned; hops = counts.hops; lost = lost })
  one_lost counts lost differs sum losses are = counts_lost fabric tables Before With to lid source back is_new fresh late outcome route_ends counts lost differs sum losses are

unowned_few : (owner : Option EndPort) (routes : ℕ) → unowned_of owner routes ≤ routes
unowned_few None routes = omega arith
unowned_few (Some owner) routes = omega arith

-- end port by end port and LID by LID
module _ (fabric : FabricOf) (tables : TablesOf) (traffic : Traffic) where
  pub first_counts : AreCountsUntil fabric tables traffic 0 0 (record {
    routes = 0;
    arrived = 0;
    unowned = 0;
    hops = 0;
    lost = record {
      missing = record { count = 0; least = None };
      dead = record { count = 0; least = None };
      wrong = record { count = 0; least = None };
      looping = record { count = 0; least = None };
    };
  })
  first_counts =
      let none = until_none fabric tables traffic in
      record {
        exact = record {
          routes = count_none Route (IsUntil fabric tables traffic 0 0) none;
          arrived = count_none Route (IsOneThatArrives fabric tables (IsUntil fabric tables traffic 0 0)) (λ route one. none route one.1.0);
          unowned = count_none Route (IsOneToNobody fabric tables (IsUntil fabric tables traffic 0 0)) (λ route one. none route one.0.1.0);
          hops = record {
            most = λ route switches one. absurd (none route one.0);
            some = λ not_none. absurd (not_none refl);
          };
          lost = record {
            missing = no_loss fabric tables (IsUntil fabric tables traffic 0 0) none (Stops Missing);
            dead = no_loss fabric tables (IsUntil fabric tables traffic 0 0) none (Stops Dead);
            wrong = no_loss fabric tables (IsUntil fabric tables traffic 0 0) none (Stops Wrong);
            looping = no_loss fabric tables (IsUntil fabric tables traffic 0 0) none Loops;
          };
          all = refl;
        };
        few = omega arith;
        few_unowned = omega arith;
      }

  module _ (lid : ℕ) (counts : Counts) where
    pub silent_counts : (source : EndPort) → IsEndPort fabric source → (Sends fabric tables traffic lid source → ⊥) → AreCountsUntil fabric tables traffic lid (place_of fabric source) counts → AreCountsUntil fabric tables traffic lid (place_of fabric source + 1) counts
    silent_counts source is silent are = record {
      exact = counts_same fabric tables (IsUntil fabric tables traffic lid (place_of fabric source)) (IsUntil fabric tables traffic lid (place_of fabric source + 1)) (until_to fabric tables traffic lid (place_of fabric source)) counts
          (until_silent fabric tables traffic lid (place_of fabric source) source is refl silent) are.exact;
      few = (let few = are.few in omega arith);
      few_unowned = are.few_unowned;
    }

    pub next_counts : (place : ℕ) → place ≡ length fabric.cables + switch_count fabric → place ≤ 2 ^ 17 → AreCountsUntil fabric tables traffic lid place counts → AreCountsUntil fabric tables traffic (lid + 1) 0 counts
    next_counts place last low are = record {
      exact = counts_same fabric tables (IsUntil fabric tables traffic lid place) (IsUntil fabric tables traffic (lid + 1) 0) (until_next fabric tables traffic lid place) counts (until_all fabric tables traffic lid place last) are.exact;
      few = (let few = are.few in omega arith);
      few_unowned = are.few_unowned;
    }

    pub unsent_counts : ((source : EndPort) → Sends fabric tables traffic lid source → ⊥) → AreCountsUntil fabric tables traffic lid 0 counts → AreCountsUntil fabric tables traffic (lid + 1) 0 counts
    unsent_counts none are = record {
      exact = counts_same fabric tables (IsUntil fabric tables traffic lid 0) (IsUntil fabric tables traffic (lid + 1) 0) (until_next fabric tables traffic lid 0) counts (until_unsent fabric tables traffic lid none) are.exact;
      few = (let few = are.few in omega arith);
      few_unowned = are.few_unowned;
    }

    pub arrived_counts : (senders hops most : ℕ) → IsCountOf (Sends fabric tables traffic lid) senders → senders ≤ 2 ^ 17 → AllArriveWithin fabric tables traffic lid hops → most ≡ max counts.hops hops → AreCountsUntil fabric tables traffic lid 0 counts → AreCountsUntil fabric tables traffic (lid + 1) 0 (record { routes = counts.routes + senders; arrived = counts.arrived + senders; unowned = counts.unowned + unowned_of (owner_of fabric lid) senders; hops = most; lost = counts.lost })
    arrived_counts senders hops most count low arrive is_most are = record {
      exact = counts_all_arrive fabric tables (IsUntil fabric tables traffic lid 0) (IsTo fabric tables traffic lid) (IsUntil fabric tables traffic (lid + 1) 0)
          (until_next fabric tables traffic lid 0) (until_to_lid fabric tables traffic lid) (until_or_to fabric tables traffic lid) (until_not_to fabric tables traffic lid) hops
          (λ route to. subst (λ (l : ℕ). (switches : ℕ) × RouteEnds fabric tables (record { lid = l; source = route.source }) (Arrives switches) × (switches ≤ hops)) (sym to.1)
          (arrive.all route.source (subst (λ (l : ℕ). Sends fabric tables traffic l route.source) to.1 to.0)))
          (λ not_none. (let one = arrive.some not_none in (record { lid = lid; source = one.0 }, (one.1, refl), one.2)))
          (owner_of fabric lid) (λ route to. ap (owner_of fabric) to.1)
          counts senders most is_most (count_to fabric tables traffic lid senders count) are.exact;
      few = (let few = are.few in omega arith);
      few_unowned = (let few = are.few_unowned in let less = unowned_few (owner_of fabric lid) senders in omega arith);
    }

    pub few_lost : lid ≤ 2 ^ 17 → AreCountsUntil fabric tables traffic lid 0 counts → sum_of counts.lost < 2 ^ 64
    few_lost low are = (let few = are.few in let all = are.exact.all in omega arith)

  pub all_counts : (blocks : ℕ) (counts : Counts) → length fabric.owners ≤ 64 * blocks → ((switch lid : ℕ) → 64 * blocks ≤ lid → tables switch lid ≡ None) → AreCountsUntil fabric tables traffic (64 * blocks) 0 counts → AreCounts fabric tables traffic counts
  all_counts blocks counts owners past are = counts_same fabric tables (IsUntil fabric tables traffic (64 * blocks) 0) (IsOf fabric tables traffic) (λ route is. is.0) counts (until_lids fabric tables traffic blocks owners past) are.exact
