-- Routes and pairs without a level, end port by end port and LID by LID.
use Rattle.std.proofs.Common.{◌≡◌, ◌≢◌, ◌∙◌, sym, ap, refl, subst, ℕ, ◌+◌, ◌^◌, ◌<◌, ◌≤◌, ◌⊎◌, Option, Some, None, arith, length, inl, inr, ◌*◌, List, get_or, set, length-set}
use Rattle.std.specs.Int.{bit_at, trailing_zeros, w16}
use Rattle.std.specs.Int.Count.{ones}
use Rattle.std.proofs.lemmas.Bool.{cases_eq}
use Rattle.std.proofs.lemmas.List.{get_or-set_other, get_or-set_same}
use Rattle.std.proofs.lemmas.Nat.Bits.{bit_at-trailing_zeros, bit_at-zero}
use Rattle.fabric_tables.specs.Cells.{TablesOf, tables_of}
use Rattle.fabric_counts.specs.Counts.{Route}
use Rattle.fabric_counts.specs.Steps.{IsEndPort, place_of, unowned_of}
use Rattle.fabric_counts.proofs.PlaceLemmas.{end_port, one_place, place_low}
use Rattle.fabric_lane_counts.specs.declared.sums.Sums.{Sums}
use Rattle.fabric_lane_counts.specs.LaneCounts.{IsLaneRouteOf, IsSilent, LaneRoute}
use Rattle.fabric_lane_counts.specs.Sums.{AreAudiencesBelow, AreSums, IsPairBefore, IsRouteBefore, IsSilentBefore, IsUnowned, IsUnownedBefore, pair_of}
use Rattle.fabric_lane_counts.proofs.LevelLemmas.{IsOfPair, count_pair, pair_unowned}
use Rattle.fabric_lane_routes.specs.declared.routing.LaneRouting.{LaneRouting}
use Rattle.fabric_model.specs.declared.node.EndPort.{EndPort}
use Rattle.fabric_model.specs.Fabric.{FabricOf, owner_of, switch_count}
use Rattle.fabric_routes.specs.Audience.{IsAudience}
use Rattle.fabric_routes.specs.Counting.{IsCountOf}
use Rattle.fabric_routes.specs.declared.audience.Audience.{Audience}
use Rattle.fabric_routes.specs.declared.audience.Audience.TheVariants.{Nobody}
use Rattle.fabric_model.specs.declared.traffic.Traffic.{Traffic}
use Rattle.fabric_routes.specs.Routes.{Sends}
use Rattle.fabric_routes.proofs.CountLemmas.{count_more, count_none, count_same, count_sum}
use Rattle.fabric_routes.proofs.StartLemmas.{sender_is}
use Rattle.fabric_lane_tables.specs.PathLevels.{HasLevel, LevelsOf}

-- the audiences of the LIDs so far
module _ (routing : LaneRouting) where
  abbrev Is : ℕ → Audience → Type 0
  Is lid audience = IsAudience routing.fabric.now (tables_of routing.cells.now) routing.traffic lid audience

  pub audiences_none : (audiences : List Audience) → length audiences ≡ 64 * routing.cells.now.blocks → AreAudiencesBelow routing 0 audiences
  audiences_none audiences size = record { size = size; each = λ lid low. absurd (omega arith) }

  pub audiences_more : (end : ℕ) (audiences : List Audience) (audience : Audience) → end < 64 * routing.cells.now.blocks → Is end audience → AreAudiencesBelow routing end audiences → AreAudiencesBelow routing (end + 1) (set audiences end audience)
  audiences_more end audiences audience low is are = record {
    size = length-set audiences end audience ∙ are.size;
    each = λ lid below. elim (cases_eq lid end) [
      | inl same ↦ subst (λ (k : ℕ). Is k (get_or (set audiences end audience) k Nobody)) (sym same)
          (subst (Is end) (sym (get_or-set_same audiences end audience Nobody (let size = are.size in omega arith))) is)
      | inr other ↦ subst (Is lid) (sym (get_or-set_other audiences end lid audience Nobody other)) (are.each lid (omega arith))
    ];
  }

-- the pairs before one, and those up to it
module _ (fabric : FabricOf) (place lid : ℕ) (pair : Route) where
  before_to : IsPairBefore fabric place lid pair → IsPairBefore fabric place (lid + 1) pair
  before_to (inl less) = inl less
  before_to (inr (at, low)) = inr (at, omega arith)

  before_back : IsPairBefore fabric place (lid + 1) pair → IsPairBefore fabric place lid pair ⊎ ((place_of fabric pair.source ≡ place) × (pair.lid ≡ lid))
  before_back (inl less) = inl (inl less)
  before_back (inr (at, low)) = elim (cases_eq pair.lid lid) [
    | inl here ↦ inr (at, here)
    | inr other ↦ inl (inr (at, omega arith))
  ]

  not_before : place_of fabric pair.source ≡ place → pair.lid ≡ lid → IsPairBefore fabric place lid pair → ⊥
  not_before at here (inl less) = absurd (omega arith)
  not_before at here (inr (same, low)) = absurd (omega arith)

  before_next : IsPairBefore fabric place lid pair → IsPairBefore fabric (place + 1) 0 pair
  before_next (inl less) = inl (omega arith)
  before_next (inr (at, low)) = inl (omega arith)

  before_last : pair.lid < lid → IsPairBefore fabric (place + 1) 0 pair → IsPairBefore fabric place lid pair
  before_last low (inl less) = elim (cases_eq (place_of fabric pair.source) place) [
    | inl same ↦ inr (same, low)
    | inr other ↦ inl (omega arith)
  ]
  before_last low (inr (at, none)) = absurd (omega arith)

unowned_few : (owner : Option EndPort) (routes : ℕ) → unowned_of owner routes ≤ routes
unowned_few None routes = omega arith
unowned_few (Some who) routes = omega arith

none_before : (fabric : FabricOf) (pair : Route) → IsPairBefore fabric 0 0 pair → ⊥
none_before fabric pair (inl less) = absurd (omega arith)
none_before fabric pair (inr (at, low)) = absurd (omega arith)

module _ (fabric : FabricOf) (tables : TablesOf) (traffic : Traffic) (levels : LevelsOf) where
  abbrev Routes : ℕ → ℕ → LaneRoute → Type 0
  Routes = IsRouteBefore fabric tables traffic levels

  abbrev ToNobody : ℕ → ℕ → LaneRoute → Type 0
  ToNobody = IsUnownedBefore fabric tables traffic levels

  abbrev Silent : ℕ → ℕ → Route → Type 0
  Silent = IsSilentBefore fabric tables traffic levels

  pub first_sums : AreSums fabric tables traffic levels 0 0 (record { routes = 0; unowned = 0; silent = 0 })
  first_sums = record {
    routes = count_none LaneRoute (Routes 0 0) (λ route is. none_before fabric (pair_of route) is.1);
    silent = count_none Route (Silent 0 0) (λ pair is. none_before fabric pair is.1);
    unowned = count_none LaneRoute (ToNobody 0 0) (λ route is. none_before fabric (pair_of route) is.1);
    few = omega arith;
    few_unowned = omega arith;
    few_silent = omega arith;
  }

  module _ (source : EndPort) (is : IsEndPort fabric source) (lid : ℕ) (sums : Sums) (are : AreSums fabric tables traffic levels (place_of fabric source) lid sums) where
    same_source : (pair : Route) → Sends fabric tables traffic pair.lid pair.source → place_of fabric pair.source ≡ place_of fabric source → pair.source ≡ source
    same_source pair sends at = one_place fabric pair.source source (end_port fabric traffic pair.source (sender_is fabric tables traffic pair.lid pair.source sends)) is at

    is_pair : (pair : Route) → pair.source ≡ source → pair.lid ≡ lid → pair ≡ record { lid = lid; source = source }
    is_pair pair from here =
        let by_lid : ℕ → Route = λ l. record { lid = l; source = pair.source } in
        let by_source : EndPort → Route = λ s. record { lid = lid; source = s } in
        ap by_lid here ∙ ap by_source from

    routes_to : (route : LaneRoute) → Routes (place_of fabric source) lid route → Routes (place_of fabric source) (lid + 1) route
    routes_to route is = (is.0, before_to fabric (place_of fabric source) lid (pair_of route) is.1)

    unowned_to : (route : LaneRoute) → ToNobody (place_of fabric source) lid route → ToNobody (place_of fabric source) (lid + 1) route
    unowned_to route is = (is.0, before_to fabric (place_of fabric source) lid (pair_of route) is.1)

    silent_to : (pair : Route) → Silent (place_of fabric source) lid pair → Silent (place_of fabric source) (lid + 1) pair
    silent_to pair is = (is.0, before_to fabric (place_of fabric source) lid pair is.1)

    -- no routes more, or no pairs
    same_routes : ((route : LaneRoute) → IsOfPair fabric tables traffic levels lid source route → ⊥) → IsCountOf (Routes (place_of fabric source) (lid + 1)) sums.routes
    same_routes none = count_same LaneRoute (Routes (place_of fabric source) lid) (Routes (place_of fabric source) (lid + 1)) sums.routes routes_to
        (λ route is. elim (before_back fabric (place_of fabric source) lid (pair_of route) is.1) [
          | inl before ↦ (is.0, before)
          | inr (at, here) ↦ absurd (none route (is.0, here, same_source (pair_of route) is.0.sends at))
        ]) are.routes

    same_unowned : ((route : LaneRoute) → IsOfPair fabric tables traffic levels lid source route → ⊥) → IsCountOf (ToNobody (place_of fabric source) (lid + 1)) sums.unowned
    same_unowned none = count_same LaneRoute (ToNobody (place_of fabric source) lid) (ToNobody (place_of fabric source) (lid + 1)) sums.unowned unowned_to
        (λ route is. elim (before_back fabric (place_of fabric source) lid (pair_of route) is.1) [
          | inl before ↦ (is.0, before)
          | inr (at, here) ↦ absurd (none route (is.0.0, here, same_source (pair_of route) is.0.0.sends at))
        ]) are.unowned

    same_silent : (IsSilent fabric tables traffic levels (record { lid = lid; source = source }) → ⊥) → IsCountOf (Silent (place_of fabric source) (lid + 1)) sums.silent
    same_silent none = count_same Route (Silent (place_of fabric source) lid) (Silent (place_of fabric source) (lid + 1)) sums.silent silent_to
        (λ pair is. elim (before_back fabric (place_of fabric source) lid pair is.1) [
          | inl before ↦ (is.0, before)
          | inr (at, here) ↦ absurd (none (subst (IsSilent fabric tables traffic levels) (is_pair pair (same_source pair is.0.sends at) here) is.0))
        ]) are.silent

    -- what an end port does not send
    pub sums_unsent : (Sends fabric tables traffic lid source → ⊥) → AreSums fabric tables traffic levels (place_of fabric source) (lid + 1) sums
    sums_unsent none = record {
      routes = same_routes no_route;
      unowned = same_unowned no_route;
      silent = same_silent (λ silent. none silent.sends);
      few = (let few = are.few in omega arith);
      few_unowned = are.few_unowned;
      few_silent = (let few = are.few_silent in omega arith);
    }
      where
        no_route : (route : LaneRoute) → IsOfPair fabric tables traffic levels lid source route → ⊥
        no_route route one = none (subst (Sends fabric tables traffic lid) one.2 (subst (λ (l : ℕ). Sends fabric tables traffic l route.source) one.1 one.0.sends))

    -- it has no level
    pub sums_mute : Sends fabric tables traffic lid source → levels source lid ≡ 0 → AreSums fabric tables traffic levels (place_of fabric source) (lid + 1) (record { routes = sums.routes; unowned = sums.unowned; silent = sums.silent + 1 })
    sums_mute sends zero = record {
      routes = same_routes no_route;
      unowned = same_unowned no_route;
      silent = count_more Route (Silent (place_of fabric source) lid) (Silent (place_of fabric source) (lid + 1)) (record { lid = lid; source = source }) sums.silent silent_to
          (λ pair is. elim (before_back fabric (place_of fabric source) lid pair is.1) [
            | inl before ↦ inl (is.0, before)
            | inr (at, here) ↦ inr (is_pair pair (same_source pair is.0.sends at) here)
          ])
          (record { sends = sends; none = λ level has. absurd (let bit = sym (ap (λ (n : ℕ). bit_at n level) zero) ∙ has.1 in let no = bit_at-zero level in omega arith) }, inr (refl, omega arith))
          (λ before. not_before fabric (place_of fabric source) lid (record { lid = lid; source = source }) refl refl before.1)
          are.silent;
      few = (let few = are.few in omega arith);
      few_unowned = are.few_unowned;
      few_silent = (let few = are.few_silent in omega arith);
    }
      where
        no_route : (route : LaneRoute) → IsOfPair fabric tables traffic levels lid source route → ⊥
        no_route route one = absurd (
            let word : levels route.source route.lid ≡ 0 = ap (λ (s : EndPort). levels s route.lid) one.2 ∙ ap (λ (l : ℕ). levels source l) one.1 ∙ zero in
            let bit = sym (ap (λ (n : ℕ). bit_at n route.level) word) ∙ one.0.has.1 in
            let no = bit_at-zero route.level in
            omega arith)

    -- it has some
    pub sums_told : Sends fabric tables traffic lid source → (told : ℕ) → levels source lid ≡ told → told ≢ 0 → told < 2 ^ 16 → ones told ≤ 16 → AreSums fabric tables traffic levels (place_of fabric source) (lid + 1) (record { routes = sums.routes + ones told; unowned = sums.unowned + unowned_of (owner_of fabric lid) (ones told); silent = sums.silent })
    sums_told sends told same some small most =
        let low = bit_at-trailing_zeros w16 told (omega arith) small in
        let has : HasLevel levels source lid (trailing_zeros w16 told) = (low.0, ap (λ (n : ℕ). bit_at n (trailing_zeros w16 told)) same ∙ low.1) in
        record {
          routes = count_sum LaneRoute (Routes (place_of fabric source) lid) (IsOfPair fabric tables traffic levels lid source) (Routes (place_of fabric source) (lid + 1)) sums.routes (ones told) routes_to
              (λ route one. (one.0, inr (ap (place_of fabric) one.2, (let here = one.1 in omega arith))))
              (λ route is. elim (before_back fabric (place_of fabric source) lid (pair_of route) is.1) [
                | inl before ↦ inl (is.0, before)
                | inr (at, here) ↦ inr (is.0, here, same_source (pair_of route) is.0.sends at)
              ])
              (λ route before one. not_before fabric (place_of fabric source) lid (pair_of route) (ap (place_of fabric) one.2) one.1 before.1)
              are.routes (count_pair fabric tables traffic levels lid source told same sends small);
          unowned = count_sum LaneRoute (ToNobody (place_of fabric source) lid) (λ route. IsOfPair fabric tables traffic levels lid source route × (owner_of fabric route.lid ≡ None)) (ToNobody (place_of fabric source) (lid + 1)) sums.unowned (unowned_of (owner_of fabric lid) (ones told)) unowned_to
              (λ route one. ((one.0.0, one.1), inr (ap (place_of fabric) one.0.2, (let here = one.0.1 in omega arith))))
              (λ route is. elim (before_back fabric (place_of fabric source) lid (pair_of route) is.1) [
                | inl before ↦ inl (is.0, before)
                | inr (at, here) ↦ inr ((is.0.0, here, same_source (pair_of route) is.0.0.sends at), is.0.1)
              ])
              (λ route before one. not_before fabric (place_of fabric source) lid (pair_of route) (ap (place_of fabric) one.0.2) one.0.1 before.1)
              are.unowned (pair_unowned fabric tables traffic levels lid source (owner_of fabric lid) refl (ones told) (count_pair fabric tables traffic levels lid source told same sends small));
          silent = same_silent (λ silent. silent.none (trailing_zeros w16 told) has);
          few = (let few = are.few in omega arith);
          few_unowned = (let few = are.few_unowned in let more = unowned_few (owner_of fabric lid) (ones told) in omega arith);
          few_silent = (let few = are.few_silent in omega arith);
        }

    -- the next end port
    pub sums_next : ((other : ℕ) (who : EndPort) → Sends fabric tables traffic other who → other < lid) → lid ≤ 2 ^ 16 → AreSums fabric tables traffic levels (place_of fabric source + 1) 0 sums
    sums_next last small = record {
      routes = count_same LaneRoute (Routes (place_of fabric source) lid) (Routes (place_of fabric source + 1) 0) sums.routes
          (λ route is. (is.0, before_next fabric (place_of fabric source) lid (pair_of route) is.1))
          (λ route is. (is.0, before_last fabric (place_of fabric source) lid (pair_of route) (last route.lid route.source is.0.sends) is.1)) are.routes;
      unowned = count_same LaneRoute (ToNobody (place_of fabric source) lid) (ToNobody (place_of fabric source + 1) 0) sums.unowned
          (λ route is. (is.0, before_next fabric (place_of fabric source) lid (pair_of route) is.1))
          (λ route is. (is.0, before_last fabric (place_of fabric source) lid (pair_of route) (last route.lid route.source is.0.0.sends) is.1)) are.unowned;
      silent = count_same Route (Silent (place_of fabric source) lid) (Silent (place_of fabric source + 1) 0) sums.silent
          (λ pair is. (is.0, before_next fabric (place_of fabric source) lid pair is.1))
          (λ pair is. (is.0, before_last fabric (place_of fabric source) lid pair (last pair.lid pair.source is.0.sends) is.1)) are.silent;
      few = (let few = are.few in omega arith);
      few_unowned = are.few_unowned;
      few_silent = (let few = are.few_silent in omega arith);
    }

  -- all end ports
  module _ (place : ℕ) (sums : Sums) (last : length fabric.cables + switch_count fabric ≤ place) (are : AreSums fabric tables traffic levels place 0 sums) where
    pub routes_of_all : IsCountOf (IsLaneRouteOf fabric tables traffic levels) sums.routes
    routes_of_all = count_same LaneRoute (Routes place 0) (IsLaneRouteOf fabric tables traffic levels) sums.routes (λ route is. is.0)
        (λ route is. (is, inl (let low = place_low fabric route.source (end_port fabric traffic route.source (sender_is fabric tables traffic route.lid route.source is.sends)) in omega arith))) are.routes

    pub unowned_of_all : IsCountOf (IsUnowned fabric tables traffic levels) sums.unowned
    unowned_of_all = count_same LaneRoute (ToNobody place 0) (IsUnowned fabric tables traffic levels) sums.unowned (λ route is. is.0)
        (λ route is. (is, inl (let low = place_low fabric route.source (end_port fabric traffic route.source (sender_is fabric tables traffic route.lid route.source is.0.sends)) in omega arith))) are.unowned

    pub silent_of_all : IsCountOf (IsSilent fabric tables traffic levels) sums.silent
    silent_of_all = count_same Route (Silent place 0) (IsSilent fabric tables traffic levels) sums.silent (λ pair is. is.0)
        (λ pair is. (is, inl (let low = place_low fabric pair.source (end_port fabric traffic pair.source (sender_is fabric tables traffic pair.lid pair.source is.sends)) in omega arith))) are.silent
