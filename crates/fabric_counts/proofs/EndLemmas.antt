-- A route ends in some way, and in one.
use Rattle.std.proofs.Common.{◌≡◌, ap, subst, refl, ℕ, zero, suc, ◌+◌, ◌<◌, ◌⊎◌, Some, arith, inl, inr}
use Rattle.fabric_tables.specs.Cells.{TablesOf}
use Rattle.fabric_counts.specs.Counts.{IsOf, Route, RouteEnds, hop_for}
use Rattle.fabric_counts.proofs.LostLemmas.{far_loops, no_end, one_end, place}
use Rattle.fabric_model.specs.declared.node.EndPort.{EndPort}
use Rattle.fabric_model.specs.declared.node.EndPort.TheVariants.{Host, Switch}
use Rattle.fabric_model.specs.Fabric.{FabricOf, IsFabric, start_of, switch_count}
use Rattle.fabric_routes.specs.declared.hop.Cause.{Cause}
use Rattle.fabric_routes.specs.declared.hop.Hop.{Hop}
use Rattle.fabric_routes.specs.declared.hop.Hop.TheVariants.{On, Arrive, Stop}
use Rattle.fabric_routes.specs.declared.hop.Outcome.{Outcome}
use Rattle.fabric_routes.specs.declared.hop.Outcome.TheVariants.{Arrives, Stops, Loops}
use Rattle.fabric_model.specs.declared.traffic.Traffic.{Traffic}
use Rattle.fabric_routes.specs.Routes.{EndsAs, IsSource, WalksBy}
use Rattle.fabric_routes.proofs.ChannelLemmas.{hop_within}
use Rattle.fabric_routes.proofs.StartLemmas.{sender_is, start_low}

module _ (hop_at : ℕ → Hop) (start : ℕ) where
  arrive_last : (at : ℕ) → hop_at at ≡ Arrive → (port next : ℕ) → hop_at at ≡ On port next → ⊥
  arrive_last at is port next on = absurd (cc)

  stop_last : (at : ℕ) (cause : Cause) → hop_at at ≡ Stop cause → (port next : ℕ) → hop_at at ≡ On port next → ⊥
  stop_last at cause is port next on = absurd (cc)

  no_loop : (hops at : ℕ) → WalksBy hop_at hops start at → ((port next : ℕ) → hop_at at ≡ On port next → ⊥) → EndsAs hop_at start Loops → ⊥
  no_loop hops at walk last loops =
      let far = loops (suc hops) in
      let on = no_end hop_at start hops (suc hops) at far.0 (omega arith) walk far.1 in
      last on.0 on.1 on.2

  both_arrive : (one other : ℕ) → EndsAs hop_at start (Arrives one) → EndsAs hop_at start (Arrives other) → one ≡ other
  both_arrive one other (hops, at, walk, is, count) (more, there, other_walk, other_is, other_count) =
      let same = (one_end hop_at start hops more at there walk other_walk (arrive_last at is) (arrive_last there other_is)).0 in
      omega arith

  both_stop : (one other : Cause) → EndsAs hop_at start (Stops one) → EndsAs hop_at start (Stops other) → one ≡ other
  both_stop one other (hops, at, walk, is) (more, there, other_walk, other_is) =
      let same = (one_end hop_at start hops more at there walk other_walk (stop_last at one is) (stop_last there other other_is)).1 in
      let e : hop_at at ≡ hop_at there = ap hop_at same in
      cc

  arrives_or_stops : (switches : ℕ) (cause : Cause) → EndsAs hop_at start (Arrives switches) → EndsAs hop_at start (Stops cause) → ⊥
  arrives_or_stops switches cause (hops, at, walk, is, count) (more, there, other_walk, other_is) =
      let same = (one_end hop_at start hops more at there walk other_walk (arrive_last at is) (stop_last there cause other_is)).1 in
      let e : hop_at at ≡ hop_at there = ap hop_at same in
      absurd (cc)

  pub one_ending : (one other : Outcome) → EndsAs hop_at start one → EndsAs hop_at start other → one ≡ other
  one_ending (Arrives one) (Arrives other) first second = ap (λ (n : ℕ). Arrives n) (both_arrive one other first second)
  one_ending (Arrives one) (Stops cause) first second = absurd (arrives_or_stops one cause first second)
  one_ending (Arrives one) Loops (hops, at, walk, is, count) second = absurd (no_loop hops at walk (arrive_last at is) second)
  one_ending (Stops cause) (Arrives other) first second = absurd (arrives_or_stops other cause second first)
  one_ending (Stops one) (Stops other) first second = ap (λ (c : Cause). Stops c) (both_stop one other first second)
  one_ending (Stops cause) Loops (hops, at, walk, is) second = absurd (no_loop hops at walk (stop_last at cause is) second)
  one_ending Loops (Arrives other) first (hops, at, walk, is, count) = absurd (no_loop hops at walk (arrive_last at is) first)
  one_ending Loops (Stops cause) first (hops, at, walk, is) = absurd (no_loop hops at walk (stop_last at cause is) first)
  one_ending Loops Loops first second = refl

pub one_outcome : (fabric : FabricOf) (tables : TablesOf) (route : Route) (one other : Outcome) → RouteEnds fabric tables route one → RouteEnds fabric tables route other → one ≡ other
one_outcome fabric tables route one other first second =
    let a = first.begins in
    let b = second.begins in
    let same : second.start ≡ first.start = cc in
    one_ending (hop_for fabric tables route.lid) first.start one other first.ends (subst (λ (s : ℕ). EndsAs (hop_for fabric tables route.lid) s other) same second.ends)

-- a route within so many switches ends
module _ (hop_at : ℕ → Hop) (start count : ℕ) (low : start < count) (lands : (at port next : ℕ) → hop_at at ≡ On port next → next < count) where
  abbrev Ends : Type 0
  Ends = (outcome : Outcome) × EndsAs hop_at start outcome

  by_hop : (hops at : ℕ) → WalksBy hop_at hops start at → (does : Hop) → hop_at at ≡ does → Ends ⊎ ((next : ℕ) × WalksBy hop_at (suc hops) start next)
  by_hop hops at walk Arrive is = inl (Arrives (hops + 1), (hops, at, walk, is, refl))
  by_hop hops at walk (Stop cause) is = inl (Stops cause, (hops, at, walk, is))
  by_hop hops at walk (On port next) is = inr (next, (at, port, walk, is))

  ends_or_walks : (hops : ℕ) → Ends ⊎ ((at : ℕ) × WalksBy hop_at hops start at)
  ends_or_walks zero = inr (start, refl)
  ends_or_walks (suc hops) = elim (ends_or_walks hops) [
    | inl ends ↦ inl ends
    | inr walk ↦ by_hop hops walk.0 walk.1 (hop_at walk.0) refl
  ]

  some_ending : Ends
  some_ending = elim (ends_or_walks count) [
    | inl ends ↦ ends
    | inr far ↦ (Loops, λ hops. (place hop_at start hops, far_loops hop_at start count low lands far.0 far.1 hops))
  ]

-- who sends begins somewhere
pub begins_at : (fabric : FabricOf) (traffic : Traffic) (source : EndPort) → IsSource fabric traffic source → (start : ℕ) × (start_of fabric source ≡ Some start)
begins_at fabric traffic (Host end) is = is
begins_at fabric traffic (Switch switch) is = (switch, refl)

pub some_outcome : (fabric : FabricOf) → IsFabric fabric → (tables : TablesOf) (traffic : Traffic) (route : Route) → IsOf fabric tables traffic route → (outcome : Outcome) × RouteEnds fabric tables route outcome
some_outcome fabric fits tables traffic route is =
    let source = sender_is fabric tables traffic route.lid route.source is in
    let begins = begins_at fabric traffic route.source source in
    let low = start_low fabric fits traffic route.source begins.0 source begins.1 in
    let ends = some_ending (hop_for fabric tables route.lid) begins.0 (switch_count fabric) low (λ at port next on. hop_within fabric fits tables at route.lid port next on) in
    (ends.0, record { start = begins.0; begins = begins.1; ends = ends.1 })
