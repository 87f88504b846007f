-- A route that arrives is not stopped.
use Rattle.std.proofs.Common.{◌≡◌, ◌∙◌, sym, ap, subst, ℕ, zero, suc, ◌<◌, Some, inl, inr, arith}
use Rattle.std.proofs.lemmas.Bool.{cases_eq, cases_lt}
use Rattle.fabric_tables.specs.Cells.{TablesOf}
use Rattle.fabric_model.specs.Fabric.{FabricOf}
use Rattle.fabric_routes.specs.declared.hop.Hop.{Hop}
use Rattle.fabric_routes.specs.declared.hop.Hop.TheVariants.{On, Arrive}
use Rattle.fabric_model.specs.declared.traffic.Traffic.{Traffic}
use Rattle.fabric_routes.specs.Found.{SomeIsStopped}
use Rattle.fabric_routes.specs.Routes.{ComesBy, IsStop, WalksBy, hop}
use Rattle.fabric_verdict.specs.Verdict.{AllArrive}

module _ (hop_at : ℕ → Hop) where
  one_walk : (hops start at there : ℕ) → WalksBy hop_at hops start at → WalksBy hop_at hops start there → at ≡ there
  one_walk zero start at there walk other = sym walk ∙ other
  one_walk (suc hops) start at there (before, port, walk, on) (before', port', walk', on') =
      let same = one_walk hops start before before' walk walk' in
      let both : On port at ≡ On port' there = sym on ∙ ap hop_at same ∙ on' in
      cc

  -- where a walk does not go on, no longer one comes by
  module _ (hops start at : ℕ) (walk : WalksBy hop_at hops start at) (last : (port next : ℕ) → hop_at at ≡ On port next → ⊥) where
    no_longer : (more there : ℕ) → hops < more → WalksBy hop_at more start there → ⊥
    no_longer zero there less other = absurd (omega arith)
    no_longer (suc more) there less (before, port, walk', on) = elim (cases_eq hops more) [
      | inl same ↦ last port there (ap hop_at (one_walk more start at before (subst (λ (n : ℕ). WalksBy hop_at n start at) same walk) walk') ∙ on)
      | inr away ↦ no_longer more before (omega arith) walk'
    ]

  one_end : (start hops at more there : ℕ) → WalksBy hop_at hops start at → hop_at at ≡ Arrive → WalksBy hop_at more start there → IsStop (hop_at there) → ⊥
  one_end start hops at more there walk arrives other stops = elim (cases_eq hops more) [
    | inl same ↦ not_stop (subst (λ (n : ℕ). IsStop (hop_at n)) (sym (one_walk more start at there (subst (λ (n : ℕ). WalksBy hop_at n start at) same walk) other)) stops)
    | inr away ↦ elim (cases_lt hops more) [
      | inl less ↦ no_longer hops start at walk goes_on more there less other
      | inr back ↦ no_longer more start there other (λ port next on. subst IsStop on stops) hops at (omega arith) walk
    ]
  ]
    where
      not_stop : IsStop (hop_at at) → ⊥
      not_stop is = subst IsStop arrives is

      goes_on : (port next : ℕ) → hop_at at ≡ On port next → ⊥
      goes_on port next on = let both : Arrive ≡ On port next = sym arrives ∙ on in absurd (cc)

-- where all arrive none is stopped
pub none_is_stopped : (fabric : FabricOf) (tables : TablesOf) (traffic : Traffic) → AllArrive fabric tables traffic → SomeIsStopped fabric tables traffic → ⊥
none_is_stopped fabric tables traffic all (lid, (source, (at, comes, stops))) =
    let way = all lid source comes.sends in
    let by = way.1 in
    let both : Some comes.start ≡ Some by.start = sym comes.begins ∙ by.begins in
    let same : comes.start ≡ by.start = cc in
    one_end (λ switch. hop fabric tables switch lid) by.start way.0 by.at comes.hops at by.comes by.arrives (subst (λ (n : ℕ). ComesBy fabric tables lid comes.hops n at) same comes.comes) stops
