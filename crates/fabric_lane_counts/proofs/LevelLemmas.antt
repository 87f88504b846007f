-- The routes of an end port to a LID with all its levels, and if they all arrive.
use Rattle.std.proofs.Common.{◌≡◌, ◌≢◌, ◌∙◌, sym, ap, refl, subst, ℕ, zero, suc, ◌+◌, ◌-◌, ◌*◌, ◌/◌, ◌%◌, ◌^◌, ◌<◌, ◌⊎◌, Option, Some, None, arith, inl, inr, max, mul_comm}
use Rattle.std.specs.Int.{bit_at, trailing_zeros, w16}
use Rattle.std.specs.Int.Count.{ones, ones-ones}
use Rattle.std.proofs.lemmas.Bool.{cases_eq}
use Rattle.std.proofs.lemmas.Nat.{ones_cat}
use Rattle.std.proofs.lemmas.Nat.Bits.{bit_at-trailing_zeros, bit_at_above, bit_at_cat_high, bit_at_cat_low}
use Rattle.std.proofs.Math.Nat.{div-add-mod, div-lt_iff_lt-mul, mod-lt, pow-succ'}
use Rattle.fabric_tables.specs.Cells.{TablesOf}
use Rattle.fabric_counts.specs.Counts.{hop_for}
use Rattle.fabric_counts.specs.Steps.{place_of, unowned_of}
use Rattle.fabric_counts.proofs.PlaceLemmas.{end_port, one_place}
use Rattle.fabric_lane_counts.specs.declared.counts.LaneCounts.{LaneCounts}
use Rattle.fabric_lane_counts.specs.Gone.{IsGoneFrom}
use Rattle.fabric_lane_counts.specs.LaneCounts.{AreCountsOf, IsLaneRouteOf, LaneRoute, LaneRouteEnds}
use Rattle.fabric_lane_counts.specs.Steps.{IsUntil}
use Rattle.fabric_lane_counts.proofs.EndLemmas.{ends_on_lanes}
use Rattle.fabric_lane_counts.proofs.MoreLemmas.{counts_all_arrive}
use Rattle.fabric_lane_routes.specs.declared.hop.LaneOutcome.TheVariants.{Arrives}
use Rattle.fabric_lane_routes.specs.LaneRoutes.{begin_of}
use Rattle.fabric_model.specs.declared.node.EndPort.{EndPort}
use Rattle.fabric_model.specs.declared.node.Spot.{Spot}
use Rattle.fabric_model.specs.Fabric.{FabricOf, owner_of}
use Rattle.fabric_routes.specs.Counting.{IsCountOf}
use Rattle.fabric_routes.specs.declared.hop.Outcome.TheVariants as end
use Rattle.fabric_model.specs.declared.traffic.Traffic.{Traffic}
use Rattle.fabric_routes.specs.Routes.{EndsAs, Sends}
use Rattle.fabric_routes.proofs.CountLemmas.{count_image, count_more, count_none, count_same}
use Rattle.fabric_routes.proofs.StartLemmas.{sender_is}
use Rattle.fabric_lane_tables.specs.Lanes.{LanesOf}
use Rattle.fabric_lane_tables.specs.PathLevels.{LevelsOf}

-- as many levels as digits are set
abbrev IsSet : ℕ → ℕ → ℕ → Type 0
IsSet k n level = (level < k) × (bit_at n level ≡ 1)

count_next : (k a r : ℕ) → a < 2 → r < 2 ^ k → IsCountOf (IsSet k r) (ones r) → IsCountOf (IsSet (suc k) (a * 2 ^ k + r)) (ones a + ones r)
count_next k zero r low small count = subst (λ (n : ℕ). IsCountOf (IsSet (suc k) (0 * 2 ^ k + r)) n) (let none = ones-ones 0 in let e : ones r ≡ ones 0 + ones r = omega arith in e) (count_same ℕ (IsSet k r) (IsSet (suc k) (0 * 2 ^ k + r)) (ones r)
    (λ level set. (let less = set.0 in omega arith, bit_at_cat_low 0 k r level set.0 ∙ set.1))
    (λ level set. elim (cases_eq level k) [
      | inl last ↦ absurd (
          let no = bit_at_above r k level small (omega arith) in
          let e : 0 * 2 ^ k + r ≡ r = omega arith in
          let bit = ap (λ (n : ℕ). bit_at n level) (sym e) ∙ set.1 in
          omega arith)
      | inr other ↦ (
          let low_level : level < k = (let less = set.0 in omega arith) in
          (low_level, sym (bit_at_cat_low 0 k r level low_level) ∙ set.1))
    ]) count)
count_next k (suc zero) r low small count =
    let first : bit_at (1 * 2 ^ k + r) k ≡ 1 = bit_at_cat_high 1 k r k small (omega arith) ∙ (let e : k - k ≡ 0 = omega arith in ap (bit_at 1) e) in
    let more = count_more ℕ (IsSet k r) (IsSet (suc k) (1 * 2 ^ k + r)) k (ones r)
    (λ level set. (let less = set.0 in omega arith, bit_at_cat_low 1 k r level set.0 ∙ set.1))
    (λ level set. elim (cases_eq level k) [
      | inl last ↦ inr last
      | inr other ↦ (
          let low_level : level < k = (let less = set.0 in omega arith) in
          inl (low_level, sym (bit_at_cat_low 1 k r level low_level) ∙ set.1))
    ])
    (omega arith, first) (λ set. absurd (let less = set.0 in omega arith)) count in
    subst (λ (n : ℕ). IsCountOf (IsSet (suc k) (1 * 2 ^ k + r)) n) (let one = ones-ones 1 in let e : ones r + 1 ≡ ones 1 + ones r = omega arith in e) more
count_next k (suc (suc a)) r low small count = absurd (omega arith)

pub count_levels : (k n : ℕ) → n < 2 ^ k → IsCountOf (IsSet k n) (ones n)
count_levels zero n small =
    let e : 0 ≡ n = omega arith in
    subst (λ (m : ℕ). IsCountOf (IsSet 0 m) (ones m)) e (subst (λ (c : ℕ). IsCountOf (IsSet 0 0) c) (sym (ones-ones 0)) (count_none ℕ (IsSet 0 0) (λ level set. absurd (let less = set.0 in omega arith))))
count_levels (suc k) n small =
    let e : n / 2 ^ k * 2 ^ k + n % 2 ^ k ≡ n = ap (λ (m : ℕ). m + n % 2 ^ k) (mul_comm (n / 2 ^ k) (2 ^ k)) ∙ div-add-mod n (2 ^ k) in
    let rest : n % 2 ^ k < 2 ^ k = mod-lt n (omega arith) in
    let some : 0 < 2 ^ k = omega arith in
    let high : n / 2 ^ k < 2 = (div-lt_iff_lt-mul {k = 2 ^ k} {x = n} {y = 2} some).1 (subst (λ (m : ℕ). n < m) (pow-succ' 2 k) small) in
    let count = count_next k (n / 2 ^ k) (n % 2 ^ k) high rest (count_levels k (n % 2 ^ k) rest) in
    subst (λ (m : ℕ). IsCountOf (IsSet (suc k) m) (ones m)) e (subst (λ (c : ℕ). IsCountOf (IsSet (suc k) (n / 2 ^ k * 2 ^ k + n % 2 ^ k)) c) (sym (ones_cat k (n / 2 ^ k) (n % 2 ^ k) rest)) count)

-- the routes of an end port to a LID
abbrev pub route_with : ℕ → EndPort → ℕ → LaneRoute
route_with lid source level = record { lid = lid; source = source; level = level }

module _ (fabric : FabricOf) (tables : TablesOf) (traffic : Traffic) (levels : LevelsOf) (lid : ℕ) (source : EndPort) where
  abbrev pub IsOfPair : LaneRoute → Type 0
  IsOfPair route = IsLaneRouteOf fabric tables traffic levels route × (route.lid ≡ lid) × (route.source ≡ source)

  pub is_route : (route : LaneRoute) → IsOfPair route → route_with lid source route.level ≡ route
  is_route route (is, here, from) =
      let by_lid : ℕ → LaneRoute = λ l. record { lid = l; source = source; level = route.level } in
      let by_source : EndPort → LaneRoute = λ s. record { lid = route.lid; source = s; level = route.level } in
      ap by_lid (sym here) ∙ ap by_source (sym from)

  -- those to a LID that nobody owns
  pub pair_unowned : (owner : Option EndPort) → owner_of fabric lid ≡ owner → (count : ℕ) → IsCountOf IsOfPair count → IsCountOf (λ route. IsOfPair route × (owner_of fabric route.lid ≡ None)) (unowned_of owner count)
  pair_unowned None nobody count is = count_same LaneRoute IsOfPair (λ route. IsOfPair route × (owner_of fabric route.lid ≡ None)) count
      (λ route one. (one, ap (owner_of fabric) one.1 ∙ nobody)) (λ route one. one.0) is
  pair_unowned (Some who) owns count is = count_none LaneRoute (λ route. IsOfPair route × (owner_of fabric route.lid ≡ None))
      (λ route one. absurd (let nobody : owner_of fabric lid ≡ None = sym (ap (owner_of fabric) one.0.1) ∙ one.1 in cc))

  module _ (told : ℕ) (same : levels source lid ≡ told) where
    pub has_bit : (route : LaneRoute) → IsOfPair route → bit_at told route.level ≡ 1
    has_bit route (is, here, from) =
        let word : levels route.source route.lid ≡ told = ap (λ (s : EndPort). levels s route.lid) from ∙ ap (λ (l : ℕ). levels source l) here ∙ same in
        ap (λ (n : ℕ). bit_at n route.level) (sym word) ∙ is.has.1

    pub new_route : Sends fabric tables traffic lid source → (level : ℕ) → level < 16 → bit_at told level ≡ 1 → IsOfPair (route_with lid source level)
    new_route sends level low bit = (record { sends = sends; has = (low, ap (λ (n : ℕ). bit_at n level) same ∙ bit) }, refl, refl)

    -- are as many as its levels
    pub count_pair : Sends fabric tables traffic lid source → told < 2 ^ 16 → IsCountOf IsOfPair (ones told)
    count_pair sends small = count_image ℕ LaneRoute (route_with lid source) (IsSet 16 told) IsOfPair (ones told)
        (λ level set. new_route sends level set.0 set.1)
        (λ route one. (route.level, (one.0.has.0, has_bit route one), is_route route one))
        (λ one other e. ap (λ (r : LaneRoute). r.level) e) (count_levels 16 told small)

module _ (fabric : FabricOf) (tables : TablesOf) (lanes : LanesOf) (traffic : Traffic) (levels : LevelsOf) (lid : ℕ) (source : EndPort) (told : ℕ) (same : levels source lid ≡ told) (sends : Sends fabric tables traffic lid source) (start : Spot) (begins : begin_of fabric source ≡ Some start) (switches : ℕ) (ends : EndsAs (hop_for fabric tables lid) start.switch (end.Arrives switches)) (kept : (level : ℕ) → bit_at told level ≡ 1 → IsGoneFrom fabric tables lanes lid start level → ⊥) where
  abbrev IsNew : LaneRoute → Type 0
  IsNew = IsOfPair fabric tables traffic levels lid source

  abbrev Until : ℕ → LaneRoute → Type 0
  Until = IsUntil fabric tables traffic levels lid (place_of fabric source)

  to : (route : LaneRoute) → Until 0 route → Until 16 route
  to route (is, inl less) = (is, inl less)
  to route (is, inr (here, inl before)) = (is, inr (here, inl before))
  to route (is, inr (here, inr (at, low))) = absurd (omega arith)

  add : (route : LaneRoute) → IsNew route → Until 16 route
  add route (is, here, from) = (is, inr (here, inr (ap (place_of fabric) from, is.has.0)))

  back : (route : LaneRoute) → Until 16 route → Until 0 route ⊎ IsNew route
  back route (is, inl less) = inl (is, inl less)
  back route (is, inr (here, inl before)) = inl (is, inr (here, inl before))
  back route (is, inr (here, inr (at, low))) = inr (is, here, one_place fabric route.source source (end_port fabric traffic route.source (sender_is fabric tables traffic route.lid route.source is.sends)) (end_port fabric traffic source (sender_is fabric tables traffic lid source sends)) at)

  apart : (route : LaneRoute) → Until 0 route → IsNew route → ⊥
  apart route (is, inl less) (new, here, from) = absurd (omega arith)
  apart route (is, inr (at, inl before)) (new, here, from) = absurd (let e = ap (place_of fabric) from in omega arith)
  apart route (is, inr (at, inr (place, low))) (new, here, from) = absurd (omega arith)

  arrives : (level : ℕ) → level < 16 → bit_at told level ≡ 1 → LaneRouteEnds fabric tables lanes (route_with lid source level) (Arrives switches)
  arrives level low bit = record {
    start = start;
    begins = begins;
    ends = ends_on_lanes fabric tables lanes level lid start (λ gone. kept level bit (low, gone)) (end.Arrives switches) ends;
  }

  pub all_levels : told < 2 ^ 16 → told ≢ 0 → (counts : LaneCounts) → AreCountsOf fabric tables lanes (Until 0) counts → AreCountsOf fabric tables lanes (Until 16) (record { routes = counts.routes + ones told; arrived = counts.arrived + ones told; unowned = counts.unowned + unowned_of (owner_of fabric lid) (ones told); hops = max counts.hops switches; lost = counts.lost; silent = counts.silent })
  all_levels small some counts are =
      let low = bit_at-trailing_zeros w16 told (omega arith) small in
      counts_all_arrive fabric tables lanes (Until 0) IsNew (Until 16) to add back apart switches
      (λ route new. (switches, subst (λ (r : LaneRoute). LaneRouteEnds fabric tables lanes r (Arrives switches)) (is_route fabric tables traffic levels lid source route new) (arrives route.level new.0.has.0 (has_bit fabric tables traffic levels lid source told same route new)), omega arith))
      (λ not_none. (route_with lid source (trailing_zeros w16 told), new_route fabric tables traffic levels lid source told same sends (trailing_zeros w16 told) low.0 low.1, arrives (trailing_zeros w16 told) low.0 low.1))
      counts (ones told) (unowned_of (owner_of fabric lid) (ones told)) (max counts.hops switches) refl (count_pair fabric tables traffic levels lid source told same sends small)
      (pair_unowned fabric tables traffic levels lid source (owner_of fabric lid) refl (ones told) (count_pair fabric tables traffic levels lid source told same sends small)) are
