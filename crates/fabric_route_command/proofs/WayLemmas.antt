-- A route that arrives comes to no switch twice.
use Rattle.std.proofs.Common.{◌≡◌, ◌∙◌, sym, ap, subst, refl, ℕ, zero, suc, ◌+◌, ◌-◌, ◌<◌, arith, inl, inr}
use Rattle.std.proofs.lemmas.Bool.{cases_lt}
use Rattle.fabric_counts.proofs.EndLemmas.{one_ending}
use Rattle.fabric_counts.proofs.LostLemmas.{far_loops, no_end, place, walk_place}
use Rattle.fabric_routes.specs.declared.hop.Hop.{Hop}
use Rattle.fabric_routes.specs.declared.hop.Hop.TheVariants.{On, Arrive}
use Rattle.fabric_routes.specs.declared.hop.Outcome.TheVariants.{Arrives, Loops}
use Rattle.fabric_routes.specs.Routes.{EndsAs, WalksBy}

pub same_arrival : (one other : ℕ) → Arrives one ≡ Arrives other → one ≡ other
same_arrival one other same = cc

not_both : (does : Hop) (port next : ℕ) → does ≡ Arrive → does ≡ On port next → ⊥
not_both does port next arrive on = absurd (cc)

module _ (hop_at : ℕ → Hop) (start : ℕ) where
  -- the rest of a walk
  walk_rest : (more hops mid at : ℕ) → WalksBy hop_at hops start mid → WalksBy hop_at (hops + more) start at → WalksBy hop_at more mid at
  walk_rest zero hops mid at one whole = walk_place hop_at start hops mid one ∙ ap (place hop_at start) (let e : hops ≡ hops + 0 = omega arith in e) ∙ sym (walk_place hop_at start (hops + 0) at whole)
  walk_rest (suc more) hops mid at one whole =
      let far : WalksBy hop_at (suc (hops + more)) start at = subst (λ (k : ℕ). WalksBy hop_at k start at) (let e : hops + suc more ≡ suc (hops + more) = omega arith in e) whole in
      (far.0, far.1, walk_rest more hops mid far.0 one far.2, far.3)

  rest_of : (hops mid before at : ℕ) → before + (hops - before) ≡ hops → WalksBy hop_at before start mid → WalksBy hop_at hops start at → WalksBy hop_at (hops - before) mid at
  rest_of hops mid before at whole first walk = walk_rest (hops - before) before mid at first (subst (λ (k : ℕ). WalksBy hop_at k start at) (sym whole) walk)

  pub no_return : (switches one other at : ℕ) → EndsAs hop_at start (Arrives switches) → one < other → WalksBy hop_at one start at → WalksBy hop_at other start at → ⊥
  no_return switches one other at (hops, end, walk, arrive, count) less first second = elim (cases_lt hops other) [
    | inl past ↦ (let on = no_end hop_at start hops other end at past walk second in not_both (hop_at end) on.0 on.1 arrive on.2)
    | inr within ↦ (
        let early = rest_of hops at one end (omega arith) first walk in
        let late = rest_of hops at other end (omega arith) second walk in
        let same = one_ending hop_at at (Arrives (hops - one + 1)) (Arrives (hops - other + 1)) (hops - one, end, early, arrive, refl) (hops - other, end, late, arrive, refl) in
        let counts = same_arrival (hops - one + 1) (hops - other + 1) same in
        absurd (omega arith))
  ]

  -- nor does it go by as many links as there are switches
  pub not_so_far : (switches count at : ℕ) → start < count → ((at port next : ℕ) → hop_at at ≡ On port next → next < count) → EndsAs hop_at start (Arrives switches) → WalksBy hop_at count start at → ⊥
  not_so_far switches count at low lands arrives far =
      let loops = far_loops hop_at start count low lands at far in
      let same = one_ending hop_at start (Arrives switches) Loops arrives (λ hops. (place hop_at start hops, loops hops)) in
      absurd (cc)

  -- a switch at which a route ends: no walk to a switch that goes on is as long
  pub ends_after : (hops at before there port next : ℕ) → WalksBy hop_at hops start at → ((port next : ℕ) → hop_at at ≡ On port next → ⊥) → WalksBy hop_at before start there → hop_at there ≡ On port next → before < hops
  ends_after hops at before there port next walk last other on = elim (cases_lt before hops) [
    | inl less ↦ less
    | inr not_less ↦ elim (cases_lt hops before) [
      | inl more ↦ absurd (let goes = no_end hop_at start hops before at there more walk other in last goes.0 goes.1 goes.2)
      | inr not_more ↦ (
          let e : hops ≡ before = omega arith in
          let same : at ≡ there = walk_place hop_at start hops at walk ∙ ap (place hop_at start) e ∙ sym (walk_place hop_at start before there other) in
          absurd (last port next (ap hop_at same ∙ on)))
    ]
  ]
