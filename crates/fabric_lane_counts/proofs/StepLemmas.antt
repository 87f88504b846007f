-- How the counts go on.
use Rattle.std.proofs.Common.{◌≡◌, ◌≢◌, ◌∙◌, sym, ap, subst, refl, ℕ, ◌+◌, ◌^◌, ◌<◌, ◌≤◌, ◌⊎◌, Option, Some, None, arith, length, inl, inr, max}
use Rattle.std.specs.Int.{bit_at, trailing_zeros, w16}
use Rattle.std.proofs.lemmas.Bool.{cases_lt}
use Rattle.std.proofs.lemmas.Nat.Bits.{bit_at-trailing_zeros, bit_at-zero}
use Rattle.fabric_tables.specs.Cells.{TablesOf}
use Rattle.fabric_counts.specs.Counts.{Route}
use Rattle.fabric_counts.specs.Steps.{IsEndPort, place_of, unowned_of}
use Rattle.fabric_counts.proofs.PlaceLemmas.{end_port}
use Rattle.fabric_lane_counts.specs.declared.counts.LaneCounts.{LaneCounts}
use Rattle.fabric_lane_counts.specs.declared.counts.LaneLoss.{LaneLoss}
use Rattle.fabric_lane_counts.specs.declared.counts.LaneLosses.{LaneLosses}
use Rattle.fabric_lane_counts.specs.declared.counts.LostLaneRoute.{LostLaneRoute}
use Rattle.fabric_lane_counts.specs.LaneCounts.{AreCountsOf, AreLaneCounts, AreLosses, IsLaneLost, IsLaneLostAt, IsLaneRouteOf, IsLoss, IsSilent, LaneRoute, LaneRouteEnds, lane_sum_of}
use Rattle.fabric_lane_counts.specs.Steps.{AreCountsUntil, IsLesser, IsSilentUntil, IsUntil}
use Rattle.fabric_lane_counts.proofs.MoreLemmas.{counts_arrive, counts_lost, counts_same, loss_kept, loss_new, no_counts, other_loss}
use Rattle.fabric_lane_counts.proofs.PlaceLemmas.{silent_all, silent_fresh, silent_from, silent_less, silent_lids, silent_next, silent_none, silent_to, silent_unsent, until_all, until_all_levels, until_fresh, until_from, until_late, until_lids, until_low, until_next, until_none, until_past, until_silent, until_to, until_unsent, until_without}
use Rattle.fabric_lane_routes.specs.declared.hop.LaneOutcome.{LaneOutcome}
use Rattle.fabric_lane_routes.specs.declared.hop.LaneOutcome.TheVariants.{Arrives, Stops, Discards, Loops}
use Rattle.fabric_lane_routes.specs.LaneRoutes.{LaneEndsAs, LaneSends, begin_of, lane_hop}
use Rattle.fabric_model.specs.declared.node.EndPort.{EndPort}
use Rattle.fabric_model.specs.declared.node.Spot.{Spot}
use Rattle.fabric_model.specs.Fabric.{FabricOf, guid_of, owner_of, switch_count}
use Rattle.fabric_routes.specs.Counting.{IsCountOf}
use Rattle.fabric_routes.specs.declared.hop.Cause.TheVariants.{Missing, Dead, Wrong}
use Rattle.fabric_model.specs.declared.traffic.Traffic.{Traffic}
use Rattle.fabric_routes.specs.Routes.{Sends}
use Rattle.fabric_routes.proofs.CountLemmas.{count_more, count_none, count_same}
use Rattle.fabric_routes.proofs.StartLemmas.{sender_is}
use Rattle.fabric_lane_tables.specs.Lanes.{LanesOf}
use Rattle.fabric_lane_tables.specs.PathLevels.{HasLevel, LevelsOf}

-- a route that is not to be told: another one is, that is no greater
pub kept_told : (fabric : FabricOf) (told : Option LostLaneRoute) (lid : ℕ) (source : EndPort) → (IsLesser fabric told lid source → ⊥) → (one : LostLaneRoute) × (told ≡ Some one) × (one.lid ≡ lid → guid_of fabric one.source ≤ guid_of fabric source)
kept_told fabric None lid source not = absurd (not tt)
kept_told fabric (Some one) lid source not = (
  one,
  refl,
  λ same. elim (cases_lt (guid_of fabric source) (guid_of fabric one.source)) [
    | inl less ↦ absurd (not (same, less))
    | inr no_less ↦ no_less
  ],
)

-- what does not arrive is lost
pub not_arrived : (outcome : LaneOutcome) → ((switches : ℕ) → outcome ≡ Arrives switches → ⊥) → IsLaneLost outcome
not_arrived (Arrives switches) none = none switches refl
not_arrived (Stops cause) none = tt
not_arrived Discards none = tt
not_arrived Loops none = tt

-- one route more
module _ (fabric : FabricOf) (tables : TablesOf) (lanes : LanesOf) (traffic : Traffic) (levels : LevelsOf) (lid : ℕ) (source : EndPort) (level : ℕ) (sends : LaneSends fabric tables traffic levels lid source level) (start : Spot) (begins : begin_of fabric source ≡ Some start) (outcome : LaneOutcome) (ends : LaneEndsAs (lane_hop fabric tables lanes level lid) start outcome) where
  abbrev pub Before : LaneRoute → Type 0
  Before = IsUntil fabric tables traffic levels lid (place_of fabric source) level

  abbrev pub With : LaneRoute → Type 0
  With = IsUntil fabric tables traffic levels lid (place_of fabric source) (level + 1)

  to : (route : LaneRoute) → Before route → With route
  to = until_to fabric tables traffic levels lid (place_of fabric source) level

  back : (route : LaneRoute) → With route → Before route ⊎ (route ≡ record { lid = lid; source = source; level = level })
  back = until_from fabric tables traffic levels lid level source (end_port fabric traffic source (sender_is fabric tables traffic lid source sends.sends))

  is_new : With (record { lid = lid; source = source; level = level })
  is_new = (sends, inr (refl, inr (refl, omega arith)))

  fresh : Before (record { lid = lid; source = source; level = level }) → ⊥
  fresh = until_fresh fabric tables traffic levels lid source level

  late : (route : LaneRoute) → Before route → route.lid ≤ lid
  late = until_late fabric tables traffic levels lid (place_of fabric source) level

  lower : (route : LaneRoute) → Before route → route.lid ≡ lid → route.source ≡ source → route.level ≤ level
  lower = until_low fabric tables traffic levels lid source level

  route_ends : LaneRouteEnds fabric tables lanes (record { lid = lid; source = source; level = level }) outcome
  route_ends = record { start = start; begins = begins; ends = ends }

  pub told_before : (count : ℕ) (loss : LaneLoss) → count ≡ loss.count + 1 → (IsLesser fabric loss.least lid source → ⊥) → IsLoss fabric tables lanes Before outcome loss → IsLoss fabric tables lanes With outcome (record { count = count; least = loss.least })
  told_before count loss more not is =
      let told = kept_told fabric loss.least lid source not in
      loss_kept fabric tables lanes Before With to lid source level back is_new fresh late lower outcome route_ends count loss told.0 more told.1 told.2 is

  pub told_now : (count : ℕ) (loss : LaneLoss) (at : ℕ) → count ≡ loss.count + 1 → IsLesser fabric loss.least lid source → IsLaneLostAt (lane_hop fabric tables lanes level lid) start outcome at → IsLoss fabric tables lanes Before outcome loss → IsLoss fabric tables lanes With outcome (record { count = count; least = Some (record { lid = lid; source = source; level = level; at = at }) })
  told_now count loss at more lesser lost is = loss_new fabric tables lanes Before With to lid source level back is_new fresh late lower outcome route_ends count loss at more lesser (record { start = start; begins = begins; lost = lost }) is

  other_same : (other : LaneOutcome) (loss : LaneLoss) → other ≢ outcome → IsLoss fabric tables lanes Before other loss → IsLoss fabric tables lanes With other loss
  other_same other loss differs is = other_loss fabric tables lanes Before With to lid source level back is_new fresh late lower outcome route_ends other loss differs is

  -- the losses by a cause, which is that of the route
  by_cause : (cause : LaneOutcome) (old loss : LaneLoss) → outcome ≡ cause → (IsLoss fabric tables lanes Before outcome old → IsLoss fabric tables lanes With outcome loss) → IsLoss fabric tables lanes Before cause old → IsLoss fabric tables lanes With cause loss
  by_cause cause old loss is more before = subst (λ (o : LaneOutcome). IsLoss fabric tables lanes With o loss) is (more (subst (λ (o : LaneOutcome). IsLoss fabric tables lanes Before o old) (sym is) before))

  module _ (lost : LaneLosses) (loss : LaneLoss) (are : AreLosses fabric tables lanes Before lost) where
    pub missing_more : outcome ≡ Stops Missing → (IsLoss fabric tables lanes Before outcome lost.missing → IsLoss fabric tables lanes With outcome loss) → AreLosses fabric tables lanes With (record { missing = loss; dead = lost.dead; wrong = lost.wrong; discard = lost.discard; looping = lost.looping })
    missing_more is more = record {
      missing = by_cause (Stops Missing) lost.missing loss is more are.missing;
      dead = other_same (Stops Dead) lost.dead (λ e. (let f = e ∙ is in absurd (cc))) are.dead;
      wrong = other_same (Stops Wrong) lost.wrong (λ e. (let f = e ∙ is in absurd (cc))) are.wrong;
      discard = other_same Discards lost.discard (λ e. (let f = e ∙ is in absurd (cc))) are.discard;
      looping = other_same Loops lost.looping (λ e. (let f = e ∙ is in absurd (cc))) are.looping;
    }

    pub dead_more : outcome ≡ Stops Dead → (IsLoss fabric tables lanes Before outcome lost.dead → IsLoss fabric tables lanes With outcome loss) → AreLosses fabric tables lanes With (record { missing = lost.missing; dead = loss; wrong = lost.wrong; discard = lost.discard; looping = lost.looping })
    dead_more is more = record {
      missing = other_same (Stops Missing) lost.missing (λ e. (let f = e ∙ is in absurd (cc))) are.missing;
      dead = by_cause (Stops Dead) lost.dead loss is more are.dead;
      wrong = other_same (Stops Wrong) lost.wrong (λ e. (let f = e ∙ is in absurd (cc))) are.wrong;
      discard = other_same Discards lost.discard (λ e. (let f = e ∙ is in absurd (cc))) are.discard;
      looping = other_same Loops lost.looping (λ e. (let f = e ∙ is in absurd (cc))) are.looping;
    }

    pub wrong_more : outcome ≡ Stops Wrong → (IsLoss fabric tables lanes Before outcome lost.wrong → IsLoss fabric tables lanes With outcome loss) → AreLosses fabric tables lanes With (record { missing = lost.missing; dead = lost.dead; wrong = loss; discard = lost.discard; looping = lost.looping })
    wrong_more is more = record {
      missing = other_same (Stops Missing) lost.missing (λ e. (let f = e ∙ is in absurd (cc))) are.missing;
      dead = other_same (Stops Dead) lost.dead (λ e. (let f = e ∙ is in absurd (cc))) are.dead;
      wrong = by_cause (Stops Wrong) lost.wrong loss is more are.wrong;
      discard = other_same Discards lost.discard (λ e. (let f = e ∙ is in absurd (cc))) are.discard;
      looping = other_same Loops lost.looping (λ e. (let f = e ∙ is in absurd (cc))) are.looping;
    }

    pub discard_more : outcome ≡ Discards → (IsLoss fabric tables lanes Before outcome lost.discard → IsLoss fabric tables lanes With outcome loss) → AreLosses fabric tables lanes With (record { missing = lost.missing; dead = lost.dead; wrong = lost.wrong; discard = loss; looping = lost.looping })
    discard_more is more = record {
      missing = other_same (Stops Missing) lost.missing (λ e. (let f = e ∙ is in absurd (cc))) are.missing;
      dead = other_same (Stops Dead) lost.dead (λ e. (let f = e ∙ is in absurd (cc))) are.dead;
      wrong = other_same (Stops Wrong) lost.wrong (λ e. (let f = e ∙ is in absurd (cc))) are.wrong;
      discard = by_cause Discards lost.discard loss is more are.discard;
      looping = other_same Loops lost.looping (λ e. (let f = e ∙ is in absurd (cc))) are.looping;
    }

    pub looping_more : outcome ≡ Loops → (IsLoss fabric tables lanes Before outcome lost.looping → IsLoss fabric tables lanes With outcome loss) → AreLosses fabric tables lanes With (record { missing = lost.missing; dead = lost.dead; wrong = lost.wrong; discard = lost.discard; looping = loss })
    looping_more is more = record {
      missing = other_same (Stops Missing) lost.missing (λ e. (let f = e ∙ is in absurd (cc))) are.missing;
      dead = other_same (Stops Dead) lost.dead (λ e. (let f = e ∙ is in absurd (cc))) are.dead;
      wrong = other_same (Stops Wrong) lost.wrong (λ e. (let f = e ∙ is in absurd (cc))) are.wrong;
      discard = other_same Discards lost.discard (λ e. (let f = e ∙ is in absurd (cc))) are.discard;
      looping = by_cause Loops lost.looping loss is more are.looping;
    }

  pub one_arrives : (switches most : ℕ) (counts : LaneCounts) → outcome ≡ Arrives switches → most ≡ max counts.hops switches → AreCountsOf fabric tables lanes Before counts → AreCountsOf fabric tables lanes With (record { routes = counts.routes + 1; arrived = counts.arrived + 1; unowned = counts.unowned + unowned_of (owner_of fabric lid) 1; hops = most; lost = counts.lost; silent = counts.silent })
  one_arrives switches most counts is is_most are = counts_arrive fabric tables lanes Before With to lid source level back is_new fresh late lower outcome route_ends switches most counts is is_most are

  pub one_lost : (counts : LaneCounts) (lost : LaneLosses) → ((switches : ℕ) → Arrives switches ≢ outcome) → lane_sum_of lost ≡ lane_sum_of counts.lost + 1 → AreLosses fabric tables lanes With lost → AreCountsOf fabric tables lanes Before counts → AreCountsOf fabric tables lanes With (record { routes = counts.routes + 1; arrived = counts.arrived; unowned = counts.unowned; hops = counts.hops; lost = lost; silent = counts.silent })
  one_lost counts lost differs sum losses are = counts_lost fabric tables lanes Before With to lid source level back is_new fresh late lower outcome route_ends counts lost differs sum losses are

-- level by level, end port by end port and LID by LID
module _ (fabric : FabricOf) (tables : TablesOf) (lanes : LanesOf) (traffic : Traffic) (levels : LevelsOf) where
  abbrev Until : ℕ → ℕ → ℕ → LaneRoute → Type 0
  Until = IsUntil fabric tables traffic levels

  abbrev Silent : ℕ → ℕ → Route → Type 0
  Silent = IsSilentUntil fabric tables traffic levels

  pub first_counts : AreCountsUntil fabric tables lanes traffic levels 0 0 0 (record {
    routes = 0;
    arrived = 0;
    unowned = 0;
    hops = 0;
    lost = record {
      missing = record { count = 0; least = None };
      dead = record { count = 0; least = None };
      wrong = record { count = 0; least = None };
      discard = record { count = 0; least = None };
      looping = record { count = 0; least = None };
    };
    silent = 0;
  })
  first_counts =
      record {
        exact = no_counts fabric tables lanes (Until 0 0 0) (until_none fabric tables traffic levels);
        silent = count_none Route (Silent 0 0) (silent_none fabric tables traffic levels);
        few = omega arith;
        few_silent = omega arith;
        few_unowned = omega arith;
      }

  -- the pairs without a level are apart
  pub counts_beside : (Is : LaneRoute → Type 0) (counts : LaneCounts) (silent : ℕ) → AreCountsOf fabric tables lanes Is counts → AreCountsOf fabric tables lanes Is (record counts { silent = silent })
  counts_beside Is counts silent are = record { routes = are.routes; arrived = are.arrived; unowned = are.unowned; hops = are.hops; lost = are.lost; all = are.all }

  module _ (lid : ℕ) (counts : LaneCounts) where
    -- a level that an end port does not have
    pub without_counts : (source : EndPort) (level : ℕ) → IsEndPort fabric source → (HasLevel levels source lid level → ⊥) → AreCountsOf fabric tables lanes (Until lid (place_of fabric source) level) counts → AreCountsOf fabric tables lanes (Until lid (place_of fabric source) (level + 1)) counts
    without_counts source level is none are = counts_same fabric tables lanes (Until lid (place_of fabric source) level) (Until lid (place_of fabric source) (level + 1)) (until_to fabric tables traffic levels lid (place_of fabric source) level) counts
        (until_without fabric tables traffic levels lid level source is none) are

    -- an end port that does not send
    pub silent_counts : (source : EndPort) → IsEndPort fabric source → (Sends fabric tables traffic lid source → ⊥) → AreCountsUntil fabric tables lanes traffic levels lid (place_of fabric source) 0 counts → AreCountsUntil fabric tables lanes traffic levels lid (place_of fabric source + 1) 0 counts
    silent_counts source is none are = record {
      exact = counts_same fabric tables lanes (Until lid (place_of fabric source) 0) (Until lid (place_of fabric source + 1) 0) (until_past fabric tables traffic levels lid (place_of fabric source) 0) counts
          (until_silent fabric tables traffic levels lid source is (λ level sends. none sends.sends)) are.exact;
      silent = count_same Route (Silent lid (place_of fabric source)) (Silent lid (place_of fabric source + 1)) counts.silent (silent_to fabric tables traffic levels lid (place_of fabric source))
          (silent_less fabric tables traffic levels lid source is (λ silent. none silent.sends)) are.silent;
      few = (let few = are.few in omega arith);
      few_silent = (let few = are.few_silent in omega arith);
      few_unowned = are.few_unowned;
    }

    -- one that has no level
    pub mute_counts : (source : EndPort) → IsEndPort fabric source → Sends fabric tables traffic lid source → levels source lid ≡ 0 → AreCountsUntil fabric tables lanes traffic levels lid (place_of fabric source) 0 counts → AreCountsUntil fabric tables lanes traffic levels lid (place_of fabric source + 1) 0 (record counts { silent = counts.silent + 1 })
    mute_counts source is sends zero are =
        let none : (level : ℕ) → HasLevel levels source lid level → ⊥ = (λ level has. (let bit = has.1 in let no = ap (λ (n : ℕ). bit_at n level) zero ∙ bit_at-zero level in absurd (omega arith))) in
        record {
          exact = counts_beside (Until lid (place_of fabric source + 1) 0) counts (counts.silent + 1)
              (counts_same fabric tables lanes (Until lid (place_of fabric source) 0) (Until lid (place_of fabric source + 1) 0) (until_past fabric tables traffic levels lid (place_of fabric source) 0) counts
              (until_silent fabric tables traffic levels lid source is (λ level sent. none level sent.has)) are.exact);
          silent = count_more Route (Silent lid (place_of fabric source)) (Silent lid (place_of fabric source + 1)) (record { lid = lid; source = source }) counts.silent (silent_to fabric tables traffic levels lid (place_of fabric source))
              (silent_from fabric tables traffic levels lid source is) (record { sends = sends; none = none }, inr (refl, omega arith)) (silent_fresh fabric tables traffic levels lid source) are.silent;
          few = (let few = are.few in omega arith);
          few_silent = (let few = are.few_silent in omega arith);
          few_unowned = are.few_unowned;
        }

    -- one with its levels
    pub told_counts : (source : EndPort) (told : ℕ) (more : LaneCounts) → IsEndPort fabric source → levels source lid ≡ told → told ≢ 0 → told < 2 ^ 16 → more.silent ≡ counts.silent → more.routes ≤ counts.routes + 16 → more.unowned ≤ more.arrived → AreCountsOf fabric tables lanes (Until lid (place_of fabric source) 16) more → AreCountsUntil fabric tables lanes traffic levels lid (place_of fabric source) 0 counts → AreCountsUntil fabric tables lanes traffic levels lid (place_of fabric source + 1) 0 more
    told_counts source told more is same some fits still few_more few_nobody exact are =
        let low = bit_at-trailing_zeros w16 told (omega arith) fits in
        let has : HasLevel levels source lid (trailing_zeros w16 told) = (low.0, ap (λ (n : ℕ). bit_at n (trailing_zeros w16 told)) same ∙ low.1) in
        record {
          exact = counts_same fabric tables lanes (Until lid (place_of fabric source) 16) (Until lid (place_of fabric source + 1) 0) (until_past fabric tables traffic levels lid (place_of fabric source) 16) more
              (until_all_levels fabric tables traffic levels lid (place_of fabric source)) exact;
          silent = subst (λ (n : ℕ). IsCountOf (Silent lid (place_of fabric source + 1)) n) (sym still)
              (count_same Route (Silent lid (place_of fabric source)) (Silent lid (place_of fabric source + 1)) counts.silent (silent_to fabric tables traffic levels lid (place_of fabric source))
              (silent_less fabric tables traffic levels lid source is (λ silent. silent.none (trailing_zeros w16 told) has)) are.silent);
          few = (let few = are.few in omega arith);
          few_silent = (let few = are.few_silent in omega arith);
          few_unowned = few_nobody;
        }

    pub next_counts : (place : ℕ) → place ≡ length fabric.cables + switch_count fabric → place ≤ 2 ^ 17 → AreCountsUntil fabric tables lanes traffic levels lid place 0 counts → AreCountsUntil fabric tables lanes traffic levels (lid + 1) 0 0 counts
    next_counts place last low are = record {
      exact = counts_same fabric tables lanes (Until lid place 0) (Until (lid + 1) 0 0) (until_next fabric tables traffic levels lid place) counts (until_all fabric tables traffic levels lid place last) are.exact;
      silent = count_same Route (Silent lid place) (Silent (lid + 1) 0) counts.silent (silent_next fabric tables traffic levels lid place) (silent_all fabric tables traffic levels lid place last) are.silent;
      few = (let few = are.few in omega arith);
      few_silent = (let few = are.few_silent in omega arith);
      few_unowned = are.few_unowned;
    }

    pub unsent_counts : ((source : EndPort) → Sends fabric tables traffic lid source → ⊥) → AreCountsUntil fabric tables lanes traffic levels lid 0 0 counts → AreCountsUntil fabric tables lanes traffic levels (lid + 1) 0 0 counts
    unsent_counts none are = record {
      exact = counts_same fabric tables lanes (Until lid 0 0) (Until (lid + 1) 0 0) (until_next fabric tables traffic levels lid 0) counts (until_unsent fabric tables traffic levels lid none) are.exact;
      silent = count_same Route (Silent lid 0) (Silent (lid + 1) 0) counts.silent (silent_next fabric tables traffic levels lid 0) (silent_unsent fabric tables traffic levels lid none) are.silent;
      few = (let few = are.few in omega arith);
      few_silent = (let few = are.few_silent in omega arith);
      few_unowned = are.few_unowned;
    }

    pub all_counts : ((other : ℕ) (source : EndPort) → Sends fabric tables traffic other source → other < lid) → AreCountsUntil fabric tables lanes traffic levels lid 0 0 counts → AreLaneCounts fabric tables lanes traffic levels counts
    all_counts last are = record {
      of = counts_same fabric tables lanes (Until lid 0 0) (IsLaneRouteOf fabric tables traffic levels) (λ route is. is.0) counts (until_lids fabric tables traffic levels lid last) are.exact;
      silent = count_same Route (Silent lid 0) (IsSilent fabric tables traffic levels) counts.silent (λ pair is. is.0) (silent_lids fabric tables traffic levels lid last) are.silent;
    }

    pub few_lost : lid ≤ 2 ^ 17 → AreCountsUntil fabric tables lanes traffic levels lid 0 0 counts → lane_sum_of counts.lost < 2 ^ 64
    few_lost low are = (let few = are.few in let all = are.exact.all in omega arith)
