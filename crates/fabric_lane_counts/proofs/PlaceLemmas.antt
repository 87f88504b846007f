-- Routes LID by LID, of each end port by end port, and of each level by level; and pairs without a level.
use Rattle.std.proofs.Common.{◌≡◌, ◌∙◌, sym, ap, subst, ℕ, ◌+◌, ◌<◌, ◌≤◌, ◌⊎◌, Option, Some, None, arith, length, inl, inr}
use Rattle.std.specs.Prelude.{MatchOption}
use Rattle.std.proofs.lemmas.Bool.{cases_eq, cases_lt}
use Rattle.fabric_tables.specs.Cells.{TablesOf}
use Rattle.fabric_counts.specs.Counts.{Route}
use Rattle.fabric_counts.specs.Steps.{IsEndPort, place_of}
use Rattle.fabric_counts.proofs.PlaceLemmas.{end_port, one_place, place_low}
use Rattle.fabric_lane_counts.specs.LaneCounts.{IsLaneRouteOf, IsSilent, LaneRoute}
use Rattle.fabric_lane_counts.specs.Steps.{IsSilentUntil, IsUntil}
use Rattle.fabric_lane_routes.specs.LaneRoutes.{LaneSends, begin_of}
use Rattle.fabric_model.specs.declared.node.EndPort.{EndPort}
use Rattle.fabric_model.specs.declared.node.EndPort.TheVariants.{Host, Switch}
use Rattle.fabric_model.specs.declared.node.Spot.{Spot}
use Rattle.fabric_model.specs.Fabric.{FabricOf, switch_at, switch_count}
use Rattle.fabric_routes.specs.declared.audience.Audience.{Audience}
use Rattle.fabric_routes.specs.declared.audience.Audience.TheVariants as to
use Rattle.fabric_model.specs.declared.traffic.Traffic.{Traffic}
use Rattle.fabric_model.specs.declared.traffic.Traffic.TheVariants.{All}
use Rattle.fabric_routes.specs.Audience.{IsHeard, IsHeardFrom}
use Rattle.fabric_routes.specs.Routes.{IsSource, Sends}
use Rattle.fabric_routes.proofs.StartLemmas.{sender_is}
use Rattle.fabric_lane_tables.specs.PathLevels.{HasLevel, LevelsOf}

module _ (fabric : FabricOf) (tables : TablesOf) (traffic : Traffic) (levels : LevelsOf) (lid : ℕ) where
  -- level by level
  pub until_to : (place level : ℕ) (route : LaneRoute) → IsUntil fabric tables traffic levels lid place level route → IsUntil fabric tables traffic levels lid place (level + 1) route
  until_to place level route (is, inl less) = (is, inl less)
  until_to place level route (is, inr (here, inl before)) = (is, inr (here, inl before))
  until_to place level route (is, inr (here, inr (same, low))) = (is, inr (here, inr (same, omega arith)))

  pub until_from : (level : ℕ) (at : EndPort) → IsEndPort fabric at → (route : LaneRoute) → IsUntil fabric tables traffic levels lid (place_of fabric at) (level + 1) route → IsUntil fabric tables traffic levels lid (place_of fabric at) level route ⊎ (route ≡ record { lid = lid; source = at; level = level })
  until_from level at is route (sends, inl less) = inl (sends, inl less)
  until_from level at is route (sends, inr (here, inl before)) = inl (sends, inr (here, inl before))
  until_from level at is route (sends, inr (here, inr (same, low))) = elim (cases_eq route.level level) [
    | inr before ↦ inl (sends, inr (here, inr (same, omega arith)))
    | inl last ↦ (
        let e = one_place fabric route.source at (end_port fabric traffic route.source (sender_is fabric tables traffic route.lid route.source sends.sends)) is same in
        let by_lid : ℕ → LaneRoute = λ l. record { lid = l; source = route.source; level = route.level } in
        let by_source : EndPort → LaneRoute = λ s. record { lid = lid; source = s; level = route.level } in
        let by_level : ℕ → LaneRoute = λ l. record { lid = lid; source = at; level = l } in
        inr (ap by_lid here ∙ ap by_source e ∙ ap by_level last))
  ]

  pub until_late : (place level : ℕ) (route : LaneRoute) → IsUntil fabric tables traffic levels lid place level route → route.lid ≤ lid
  until_late place level route (is, inl less) = omega arith
  until_late place level route (is, inr (here, rest)) = omega arith

  pub until_low : (at : EndPort) (level : ℕ) (route : LaneRoute) → IsUntil fabric tables traffic levels lid (place_of fabric at) level route → route.lid ≡ lid → route.source ≡ at → route.level ≤ level
  until_low at level route (is, inl less) same here = absurd (omega arith)
  until_low at level route (is, inr (last, inl before)) same here = absurd (let e : place_of fabric route.source ≡ place_of fabric at = ap (place_of fabric) here in omega arith)
  until_low at level route (is, inr (last, inr (place, low))) same here = omega arith

  pub until_fresh : (at : EndPort) (level : ℕ) → IsUntil fabric tables traffic levels lid (place_of fabric at) level (record { lid = lid; source = at; level = level }) → ⊥
  until_fresh at level (is, inl less) = absurd (omega arith)
  until_fresh at level (is, inr (here, inl before)) = absurd (omega arith)
  until_fresh at level (is, inr (here, inr (same, low))) = absurd (omega arith)

  -- a level that it does not have
  pub until_without : (level : ℕ) (at : EndPort) → IsEndPort fabric at → (HasLevel levels at lid level → ⊥) → (route : LaneRoute) → IsUntil fabric tables traffic levels lid (place_of fabric at) (level + 1) route → IsUntil fabric tables traffic levels lid (place_of fabric at) level route
  until_without level at is none route until = elim (until_from level at is route until) [
    | inl old ↦ old
    | inr here ↦ absurd (none (subst (IsLaneRouteOf fabric tables traffic levels) here until.0).has)
  ]

  -- end port by end port: all sixteen levels, or none
  pub until_past : (place level : ℕ) (route : LaneRoute) → IsUntil fabric tables traffic levels lid place level route → IsUntil fabric tables traffic levels lid (place + 1) 0 route
  until_past place level route (is, inl less) = (is, inl less)
  until_past place level route (is, inr (here, inl before)) = (is, inr (here, inl (omega arith)))
  until_past place level route (is, inr (here, inr (same, low))) = (is, inr (here, inl (omega arith)))

  pub until_all_levels : (place : ℕ) (route : LaneRoute) → IsUntil fabric tables traffic levels lid (place + 1) 0 route → IsUntil fabric tables traffic levels lid place 16 route
  until_all_levels place route (is, inl less) = (is, inl less)
  until_all_levels place route (is, inr (here, inl before)) = elim (cases_eq (place_of fabric route.source) place) [
    | inl same ↦ (is, inr (here, inr (same, is.has.0)))
    | inr other ↦ (is, inr (here, inl (omega arith)))
  ]
  until_all_levels place route (is, inr (here, inr (same, low))) = absurd (omega arith)

  pub until_silent : (at : EndPort) → IsEndPort fabric at → ((level : ℕ) → LaneSends fabric tables traffic levels lid at level → ⊥) → (route : LaneRoute) → IsUntil fabric tables traffic levels lid (place_of fabric at + 1) 0 route → IsUntil fabric tables traffic levels lid (place_of fabric at) 0 route
  until_silent at is none route (sends, inl less) = (sends, inl less)
  until_silent at is none route (sends, inr (here, inl before)) = elim (cases_eq (place_of fabric route.source) (place_of fabric at)) [
    | inl same ↦ absurd (
        let e = one_place fabric route.source at (end_port fabric traffic route.source (sender_is fabric tables traffic route.lid route.source sends.sends)) is same in
        none route.level (subst (λ (s : EndPort). LaneSends fabric tables traffic levels lid s route.level) e (subst (λ (l : ℕ). LaneSends fabric tables traffic levels l route.source route.level) here sends)))
    | inr other ↦ (sends, inr (here, inl (omega arith)))
  ]
  until_silent at is none route (sends, inr (here, inr (same, low))) = absurd (omega arith)

  -- LID by LID
  pub until_next : (place : ℕ) (route : LaneRoute) → IsUntil fabric tables traffic levels lid place 0 route → IsUntil fabric tables traffic levels (lid + 1) 0 0 route
  until_next place route (is, inl less) = (is, inl (omega arith))
  until_next place route (is, inr (here, rest)) = (is, inl (omega arith))

  pub until_all : (place : ℕ) → place ≡ length fabric.cables + switch_count fabric → (route : LaneRoute) → IsUntil fabric tables traffic levels (lid + 1) 0 0 route → IsUntil fabric tables traffic levels lid place 0 route
  until_all place last route (is, inl less) = elim (cases_lt route.lid lid) [
    | inl before ↦ (is, inl before)
    | inr here ↦ (is, inr (omega arith, inl (let low = place_low fabric route.source (end_port fabric traffic route.source (sender_is fabric tables traffic route.lid route.source is.sends)) in omega arith)))
  ]
  until_all place last route (is, inr (here, inl before)) = absurd (omega arith)
  until_all place last route (is, inr (here, inr (same, low))) = absurd (omega arith)

  pub until_unsent : ((source : EndPort) → Sends fabric tables traffic lid source → ⊥) → (route : LaneRoute) → IsUntil fabric tables traffic levels (lid + 1) 0 0 route → IsUntil fabric tables traffic levels lid 0 0 route
  until_unsent none route (is, inl less) = elim (cases_eq route.lid lid) [
    | inl here ↦ absurd (none route.source (subst (λ (l : ℕ). Sends fabric tables traffic l route.source) here is.sends))
    | inr before ↦ (is, inl (omega arith))
  ]
  until_unsent none route (is, inr (here, inl before)) = absurd (omega arith)
  until_unsent none route (is, inr (here, inr (same, low))) = absurd (omega arith)

  -- pairs without a level
  pub silent_to : (place : ℕ) (pair : Route) → IsSilentUntil fabric tables traffic levels lid place pair → IsSilentUntil fabric tables traffic levels lid (place + 1) pair
  silent_to place pair (is, inl less) = (is, inl less)
  silent_to place pair (is, inr (here, low)) = (is, inr (here, omega arith))

  pub silent_from : (at : EndPort) → IsEndPort fabric at → (pair : Route) → IsSilentUntil fabric tables traffic levels lid (place_of fabric at + 1) pair → IsSilentUntil fabric tables traffic levels lid (place_of fabric at) pair ⊎ (pair ≡ record { lid = lid; source = at })
  silent_from at is pair (silent, inl less) = inl (silent, inl less)
  silent_from at is pair (silent, inr (here, low)) = elim (cases_eq (place_of fabric pair.source) (place_of fabric at)) [
    | inr before ↦ inl (silent, inr (here, omega arith))
    | inl last ↦ (
        let e = one_place fabric pair.source at (end_port fabric traffic pair.source (sender_is fabric tables traffic pair.lid pair.source silent.sends)) is last in
        let by_lid : ℕ → Route = λ l. record { lid = l; source = pair.source } in
        let by_source : EndPort → Route = λ s. record { lid = lid; source = s } in
        inr (ap by_lid here ∙ ap by_source e))
  ]

  pub silent_fresh : (at : EndPort) → IsSilentUntil fabric tables traffic levels lid (place_of fabric at) (record { lid = lid; source = at }) → ⊥
  silent_fresh at (is, inl less) = absurd (omega arith)
  silent_fresh at (is, inr (here, low)) = absurd (omega arith)

  pub silent_less : (at : EndPort) → IsEndPort fabric at → (IsSilent fabric tables traffic levels (record { lid = lid; source = at }) → ⊥) → (pair : Route) → IsSilentUntil fabric tables traffic levels lid (place_of fabric at + 1) pair → IsSilentUntil fabric tables traffic levels lid (place_of fabric at) pair
  silent_less at is not pair until = elim (silent_from at is pair until) [
    | inl old ↦ old
    | inr here ↦ absurd (not (subst (IsSilent fabric tables traffic levels) here until.0))
  ]

  pub silent_next : (place : ℕ) (pair : Route) → IsSilentUntil fabric tables traffic levels lid place pair → IsSilentUntil fabric tables traffic levels (lid + 1) 0 pair
  silent_next place pair (is, inl less) = (is, inl (omega arith))
  silent_next place pair (is, inr (here, low)) = (is, inl (omega arith))

  pub silent_all : (place : ℕ) → place ≡ length fabric.cables + switch_count fabric → (pair : Route) → IsSilentUntil fabric tables traffic levels (lid + 1) 0 pair → IsSilentUntil fabric tables traffic levels lid place pair
  silent_all place last pair (is, inl less) = elim (cases_lt pair.lid lid) [
    | inl before ↦ (is, inl before)
    | inr here ↦ (is, inr (omega arith, (let low = place_low fabric pair.source (end_port fabric traffic pair.source (sender_is fabric tables traffic pair.lid pair.source is.sends)) in omega arith)))
  ]
  silent_all place last pair (is, inr (here, low)) = absurd (omega arith)

  pub silent_unsent : ((source : EndPort) → Sends fabric tables traffic lid source → ⊥) → (pair : Route) → IsSilentUntil fabric tables traffic levels (lid + 1) 0 pair → IsSilentUntil fabric tables traffic levels lid 0 pair
  silent_unsent none pair (is, inl less) = elim (cases_eq pair.lid lid) [
    | inl here ↦ absurd (none pair.source (subst (λ (l : ℕ). Sends fabric tables traffic l pair.source) here is.sends))
    | inr before ↦ (is, inl (omega arith))
  ]
  silent_unsent none pair (is, inr (here, low)) = absurd (omega arith)

-- all LIDs, and none
module _ (fabric : FabricOf) (tables : TablesOf) (traffic : Traffic) (levels : LevelsOf) where
  pub until_lids : (lid : ℕ) → ((other : ℕ) (source : EndPort) → Sends fabric tables traffic other source → other < lid) → (route : LaneRoute) → IsLaneRouteOf fabric tables traffic levels route → IsUntil fabric tables traffic levels lid 0 0 route
  until_lids lid last route is = (is, inl (last route.lid route.source is.sends))

  pub silent_lids : (lid : ℕ) → ((other : ℕ) (source : EndPort) → Sends fabric tables traffic other source → other < lid) → (pair : Route) → IsSilent fabric tables traffic levels pair → IsSilentUntil fabric tables traffic levels lid 0 pair
  silent_lids lid last pair is = (is, inl (last pair.lid pair.source is.sends))

  pub until_none : (route : LaneRoute) → IsUntil fabric tables traffic levels 0 0 0 route → ⊥
  until_none route (is, inl less) = absurd (omega arith)
  until_none route (is, inr (here, inl before)) = absurd (omega arith)
  until_none route (is, inr (here, inr (same, low))) = absurd (omega arith)

  pub silent_none : (pair : Route) → IsSilentUntil fabric tables traffic levels 0 0 pair → ⊥
  silent_none pair (is, inl less) = absurd (omega arith)
  silent_none pair (is, inr (here, low)) = absurd (omega arith)

-- who is of an audience is a source by `All`
pub heard_is : (fabric : FabricOf) (audience : Audience) (source : EndPort) → IsHeardFrom fabric audience source → IsSource fabric All source
heard_is fabric to.Nobody source from = absurd from
heard_is fabric to.Hosts (Host end) from = from
heard_is fabric to.Hosts (Switch switch) from = absurd from
heard_is fabric to.Everyone source from = from

-- where its routes begin
begins_somewhere : (fabric : FabricOf) (source : EndPort) → IsSource fabric All source → None ≡ begin_of fabric source → ⊥
begins_somewhere fabric (Host end) is none = absurd (let at = is.1 in let away = ap switch_at none in cc)
begins_somewhere fabric (Switch switch) is none = absurd (cc)

pub begins_of : (fabric : FabricOf) (audience : Audience) (lid : ℕ) (source : EndPort) (found : Option Spot) → IsHeard fabric audience lid source → found ≡ begin_of fabric source → MatchOption found (IsHeard fabric audience lid source → ⊥) (λ start. IsHeard fabric audience lid source × (begin_of fabric source ≡ Some start))
begins_of fabric audience lid source None heard is = absurd (begins_somewhere fabric source (heard_is fabric audience source heard.is_from) is)
begins_of fabric audience lid source (Some start) heard is = (heard, sym is)
