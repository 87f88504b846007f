-- Where a route is lost: after as many hops as there are switches it has ended, or goes round.
use Rattle.std.proofs.Common.{◌≡◌, ◌∙◌, sym, ap, subst, refl, ℕ, zero, suc, ◌+◌, ◌-◌, ◌*◌, ◌/◌, ◌%◌, ◌<◌, ◌≤◌, arith, mul_comm, inl, inr, min}
use Rattle.std.proofs.lemmas.Bool.{cases_lt}
use Rattle.std.proofs.Math.Nat.{div-add-mod, le-mul_of_pos_right, mod-lt}
use Rattle.common_values.proofs.PigeonLemmas.{pigeons}
use Rattle.fabric_counts.specs.Counts.{ComesAgain, IsLost, IsLostAt}
use Rattle.fabric_counts.specs.Lost.{IsFar, IsLeastOf}
use Rattle.fabric_routes.specs.declared.hop.Cause.{Cause}
use Rattle.fabric_routes.specs.declared.hop.Hop.{Hop}
use Rattle.fabric_routes.specs.declared.hop.Hop.TheVariants.{On, Arrive, Stop}
use Rattle.fabric_routes.specs.declared.hop.Outcome.{Outcome}
use Rattle.fabric_routes.specs.declared.hop.Outcome.TheVariants.{Arrives, Stops, Loops}
use Rattle.fabric_routes.specs.Routes.{EndsAs, WalksBy}

-- where a hop leads, and the switch itself if it does not go on
abbrev next_of : Hop → ℕ → ℕ
next_of (On port next) at = next
next_of Arrive at = at
next_of (Stop cause) at = at

module _ (hop_at : ℕ → Hop) (start : ℕ) where
  -- the switch after so many hops
  abbrev pub place : ℕ → ℕ
  place zero = start
  place (suc hops) = next_of (hop_at (place hops)) (place hops)

  -- a walk comes there
  pub walk_place : (hops at : ℕ) → WalksBy hop_at hops start at → at ≡ place hops
  walk_place zero at walk = sym walk
  walk_place (suc hops) at (before, port, walk, on) =
      let same = walk_place hops before walk in
      sym (ap (λ (k : ℕ). next_of (hop_at k) k) (sym same) ∙ ap (λ (h : Hop). next_of h before) on)

  place_walk : (hops at : ℕ) → WalksBy hop_at hops start at → WalksBy hop_at hops start (place hops)
  place_walk hops at walk = subst (WalksBy hop_at hops start) (walk_place hops at walk) walk

  place_on : (hops at : ℕ) → WalksBy hop_at (suc hops) start at → (port next : ℕ) × (hop_at (place hops) ≡ On port next)
  place_on hops at (before, port, walk, on) = (port, at, ap hop_at (sym (walk_place hops before walk)) ∙ on)

  -- a shorter walk
  walk_less : (more hops at : ℕ) → WalksBy hop_at (hops + more) start at → (there : ℕ) × WalksBy hop_at hops start there
  walk_less zero hops at walk = (at, subst (λ (k : ℕ). WalksBy hop_at k start at) (let e : hops + 0 ≡ hops = omega arith in e) walk)
  walk_less (suc more) hops at walk =
      let far : WalksBy hop_at (suc (hops + more)) start at = subst (λ (k : ℕ). WalksBy hop_at k start at) (let e : hops + suc more ≡ suc (hops + more) = omega arith in e) walk in
      walk_less more hops far.0 far.2

  walk_to : (hops most at : ℕ) → hops ≤ most → WalksBy hop_at most start at → (there : ℕ) × WalksBy hop_at hops start there
  walk_to hops most at few walk = walk_less (most - hops) hops at (subst (λ (k : ℕ). WalksBy hop_at k start at) (let e : most ≡ hops + (most - hops) = omega arith in e) walk)

  -- no walk goes on from where the route ends
  pub no_end : (hops most at there : ℕ) → hops < most → WalksBy hop_at hops start at → WalksBy hop_at most start there → (port next : ℕ) × (hop_at at ≡ On port next)
  no_end hops most at there less one other =
      let further = walk_to (suc hops) most there (omega arith) other in
      let on = place_on hops further.0 further.1 in
      (on.0, on.1, ap hop_at (walk_place hops at one) ∙ on.2)

  -- where it comes to one switch twice it goes round
  module _ (base round : ℕ) (some : 0 < round) (same : place (base + round) ≡ place base) where
    again : (more : ℕ) → place (base + more + round) ≡ place (base + more)
    again zero = ap place (let e : base + 0 + round ≡ base + round = omega arith in e) ∙ same ∙ ap place (let e : base ≡ base + 0 = omega arith in e)
    again (suc more) =
        ap place (let e : base + suc more + round ≡ suc (base + more + round) = omega arith in e)
        ∙ ap (λ (k : ℕ). next_of (hop_at k) k) (again more)
        ∙ ap place (let e : suc (base + more) ≡ base + suc more = omega arith in e)

    turns : (count more : ℕ) → place (base + more + count * round) ≡ place (base + more)
    turns zero more = ap place (let e : base + more + 0 * round ≡ base + more = omega arith in e)
    turns (suc count) more =
        let e : base + more + suc count * round ≡ base + (more + count * round) + round = omega arith in
        ap place e ∙ again (more + count * round) ∙ ap place (let f : base + (more + count * round) ≡ base + more + count * round = omega arith in f) ∙ turns count more

    wraps : (more : ℕ) → (less : ℕ) × (less < round) × (place (base + more) ≡ place (base + less))
    wraps more = (
      more % round,
      mod-lt more some,
      (
          let whole = div-add-mod more round in
          let turn = mul_comm round (more / round) in
          let e : base + more ≡ base + more % round + more / round * round = omega arith in
          ap place e ∙ turns (more / round) (more % round)),
    )

    -- .. for ever
    goes_round : (there : ℕ) → WalksBy hop_at (base + round) start there → (hops : ℕ) → WalksBy hop_at hops start (place hops)
    goes_round there far zero = refl
    goes_round there far (suc hops) =
        let on = step hops in
        (place hops, on.0, goes_round there far hops, on.2 ∙ ap (λ (n : ℕ). On on.0 n) (ap (λ (h : Hop). next_of h (place hops)) (sym on.2)))
      where
        early : (k : ℕ) → k < base + round → (port next : ℕ) × (hop_at (place k) ≡ On port next)
        early k less = let further = walk_to (suc k) (base + round) there (omega arith) far in place_on k further.0 further.1

        step : (k : ℕ) → (port next : ℕ) × (hop_at (place k) ≡ On port next)
        step k = elim (cases_lt k base) [
          | inl before ↦ early k (omega arith)
          | inr after ↦ (
              let less = wraps (k - base) in
              let on = early (base + less.0) (let l = less.1 in omega arith) in
              let e : k ≡ base + (k - base) = omega arith in
              (on.0, on.1, ap hop_at (ap place e ∙ less.2) ∙ on.2))
        ]

  -- of more places than switches two are one
  module _ (count : ℕ) (low : start < count) (lands : (at port next : ℕ) → hop_at at ≡ On port next → next < count) where
    next_low : (does : Hop) (at : ℕ) → hop_at at ≡ does → at < count → next_of does at < count
    next_low (On port next) at is fits = lands at port next is
    next_low Arrive at is fits = fits
    next_low (Stop cause) at is fits = fits

    place_low : (hops : ℕ) → place hops < count
    place_low zero = low
    place_low (suc hops) = next_low (hop_at (place hops)) (place hops) refl (place_low hops)

    abbrev pub GoesRound : Type 0
    GoesRound = (base round : ℕ) × (0 < round) × (base + round ≤ count) × (place (base + round) ≡ place base)

    pub two : GoesRound
    two =
        let (i, j, less, most, same) = pigeons count place (λ k few. place_low k) in
        let there : i + (j - i) ≡ j = omega arith in
        (i, j - i, omega arith, omega arith, ap place there ∙ sym same)

    -- it goes round from the last one on
    pub rounds : (round : ℕ) × (0 < round) × (round ≤ count) × (place (count + round) ≡ place count)
    rounds =
        let (base, round, some, most, same) = two in
        let turned = again base round some same (count - base) in
        let late : base + (count - base) ≡ count = omega arith in
        (round, some, omega arith, ap (λ (k : ℕ). place (k + round)) (sym late) ∙ turned ∙ ap place late)

    -- a route that goes so far goes on for ever
    pub far_loops : (at : ℕ) → WalksBy hop_at count start at → (hops : ℕ) → WalksBy hop_at hops start (place hops)
    far_loops at far =
        let (base, round, some, most, same) = two in
        let less = walk_to (base + round) count at most far in
        goes_round base round some same less.0 less.1

  -- two ends of a route are one
  pub one_end : (m n a b : ℕ) → WalksBy hop_at m start a → WalksBy hop_at n start b → ((port next : ℕ) → hop_at a ≡ On port next → ⊥) → ((port next : ℕ) → hop_at b ≡ On port next → ⊥) → (m ≡ n) × (a ≡ b)
  one_end m n a b one other last other_last = elim (cases_lt m n) [
    | inl less ↦ absurd (let on = no_end m n a b less one other in last on.0 on.1 on.2)
    | inr not_less ↦ elim (cases_lt n m) [
      | inl more ↦ absurd (let on = no_end n m b a more other one in other_last on.0 on.1 on.2)
      | inr not_more ↦ (
          let e : m ≡ n = omega arith in
          (e, walk_place m a one ∙ ap place e ∙ sym (walk_place n b other)))
    ]
  ]

  -- one hop more
  pub walk_more : (hops at port next : ℕ) → WalksBy hop_at hops start at → hop_at at ≡ On port next → WalksBy hop_at (hops + 1) start next
  walk_more hops at port next walk on =
      let far : WalksBy hop_at (suc hops) start next = (at, port, walk, on) in
      subst (λ (k : ℕ). WalksBy hop_at k start next) (let e : suc hops ≡ hops + 1 = omega arith in e) far

  -- a walk after a walk
  walk_then : (more hops mid at : ℕ) → WalksBy hop_at hops start mid → WalksBy hop_at more mid at → WalksBy hop_at (hops + more) start at
  walk_then zero hops mid at one same = subst (WalksBy hop_at (hops + 0) start) same (subst (λ (k : ℕ). WalksBy hop_at k start mid) (let e : hops ≡ hops + 0 = omega arith in e) one)
  walk_then (suc more) hops mid at one (before, port, walk, on) =
      let far : WalksBy hop_at (suc (hops + more)) start at = (before, port, walk_then more hops mid before one walk, on) in
      subst (λ (k : ℕ). WalksBy hop_at k start at) (let e : suc (hops + more) ≡ hops + suc more = omega arith in e) far

  -- and the rest of a walk
  walk_rest : (more hops mid at : ℕ) → WalksBy hop_at hops start mid → WalksBy hop_at (hops + more) start at → WalksBy hop_at more mid at
  walk_rest zero hops mid at one whole = walk_place hops mid one ∙ ap place (let e : hops ≡ hops + 0 = omega arith in e) ∙ sym (walk_place (hops + 0) at whole)
  walk_rest (suc more) hops mid at one whole =
      let far : WalksBy hop_at (suc (hops + more)) start at = subst (λ (k : ℕ). WalksBy hop_at k start at) (let e : hops + suc more ≡ suc (hops + more) = omega arith in e) whole in
      (far.0, far.1, walk_rest more hops mid far.0 one far.2, far.3)

  -- the least of the switches by one hop more
  pub least_step : (hops at port next least new : ℕ) → new ≡ min next least → IsLeastOf hop_at hops start least → WalksBy hop_at hops start at → hop_at at ≡ On port next → IsLeastOf hop_at (hops + 1) start new
  least_step hops at port next least new same is walk on =
      let far : WalksBy hop_at (suc hops) start next = (at, port, walk, on) in
      let none : (other there : ℕ) → other ≤ hops + 1 → WalksBy hop_at other start there → new ≤ there = (λ other there few comes. elim (cases_lt other (hops + 1)) [
        | inl before ↦ (let le = is.none_less other there (omega arith) comes in omega arith)
        | inr last ↦ (
            let e : other ≡ suc hops = omega arith in
            let one : there ≡ next = walk_place other there comes ∙ ap place e ∙ sym (walk_place (suc hops) next far) in
            omega arith)
      ]) in
      elim (cases_lt next least) [
        | inl less ↦ (
            let e : next ≡ new = omega arith in
            record {
              hops = suc hops;
              few = omega arith;
              comes = subst (WalksBy hop_at (suc hops) start) e far;
              none_less = none;
            })
        | inr no_less ↦ (
            let e : least ≡ new = omega arith in
            record {
              hops = is.hops;
              few = (let few = is.few in omega arith);
              comes = subst (WalksBy hop_at is.hops start) e is.comes;
              none_less = none;
            })
      ]

  -- of all, if it goes no further
  pub least_end : (hops count at least : ℕ) → hops ≤ count → IsLeastOf hop_at hops start least → WalksBy hop_at hops start at → ((port next : ℕ) → hop_at at ≡ On port next → ⊥) → IsLeastOf hop_at count start least
  least_end hops count at least few is walk last = record {
    hops = is.hops;
    few = (let l = is.few in omega arith);
    comes = is.comes;
    none_less = λ other there within comes. elim (cases_lt hops other) [
      | inl beyond ↦ absurd (let on = no_end hops other at there beyond walk comes in last on.0 on.1 on.2)
      | inr before ↦ is.none_less other there before comes
    ];
  }

  pub least_first : IsLeastOf hop_at 0 start start
  least_first = record {
    hops = 0;
    few = omega arith;
    comes = refl;
    none_less = λ other there few comes. (
        let e : other ≡ 0 = omega arith in
        let same : there ≡ start = walk_place other there comes ∙ ap place e in
        omega arith);
  }

module _ (hop_at : ℕ → Hop) (start count : ℕ) (low : start < count) (lands : (at port next : ℕ) → hop_at at ≡ On port next → next < count) (far least : ℕ) (is_far : IsFar hop_at count start far) (is_least : IsLeastOf hop_at count far least) where
  IsLast : ℕ → Type 0
  IsLast at = (port next : ℕ) → hop_at at ≡ On port next → ⊥

  -- it stops
  far_last : (hops at : ℕ) (cause : Cause) → WalksBy hop_at hops start at → hop_at at ≡ Stop cause → (port next : ℕ) → hop_at far ≡ On port next → ⊥
  far_last hops at cause walk stop port next on =
      let e = is_far.goes_on port next on in
      let loops = far_loops hop_at start count low lands far (subst (λ (k : ℕ). WalksBy hop_at k start far) e is_far.comes) in
      let further = no_end hop_at start hops (suc hops) at (place hop_at start (suc hops)) (omega arith) walk (loops (suc hops)) in
      let is = further.2 in
      absurd (cc)

  stays : (hops : ℕ) → WalksBy hop_at hops far least → ((port next : ℕ) → hop_at far ≡ On port next → ⊥) → far ≡ least
  stays zero same last = same
  stays (suc hops) walk last = absurd (let on = no_end hop_at far 0 (suc hops) far least (omega arith) refl walk in last on.0 on.1 on.2)

  stopped : (hops at : ℕ) (cause : Cause) → WalksBy hop_at hops start at → hop_at at ≡ Stop cause → IsLostAt hop_at start (Stops cause) least
  stopped hops at cause walk stop =
      let last = far_last hops at cause walk stop in
      let same = (one_end hop_at start is_far.hops hops far at is_far.comes walk last (λ port next on. (let is = stop in absurd (cc)))).1 in
      let rest = stays is_least.hops is_least.comes last in
      ((is_far.hops, subst (WalksBy hop_at is_far.hops start) rest is_far.comes), ap hop_at (sym rest ∙ same) ∙ stop)

  -- it goes on for ever
  module _ (loops : (hops : ℕ) → (at : ℕ) × WalksBy hop_at hops start at) where
    comes_far : WalksBy hop_at count start far
    comes_far =
        let further = loops (suc is_far.hops) in
        let on = no_end hop_at start is_far.hops (suc is_far.hops) far further.0 (omega arith) is_far.comes further.1 in
        subst (λ (k : ℕ). WalksBy hop_at k start far) (is_far.goes_on on.0 on.1 on.2) is_far.comes

    comes_again : ComesAgain hop_at start least
    comes_again most =
        let (round, some, few, same) = rounds hop_at start count low lands in
        let here = walk_then hop_at start is_least.hops count far least comes_far is_least.comes in
        let hops = count + is_least.hops + most * round in
        let there = loops (count + is_least.hops + most * round) in
        let is : there.0 ≡ least = walk_place hop_at start (count + is_least.hops + most * round) there.0 there.1 ∙ turns hop_at start count round some same most is_least.hops ∙ sym (walk_place hop_at start (count + is_least.hops) least here) in
        let more = le-mul_of_pos_right most some in
        (count + is_least.hops + most * round, omega arith, subst (WalksBy hop_at (count + is_least.hops + most * round) start) is there.1)

    none_less : (other : ℕ) → ComesAgain hop_at start other → least ≤ other
    none_less other comes =
        let (round, some, few, same) = rounds hop_at start count low lands in
        let (hops, late, walk) = comes count in
        let e : hops ≡ count + (hops - count) = omega arith in
        let wrapped = wraps hop_at start count round some same (hops - count) in
        let there = loops (count + wrapped.0) in
        let is : there.0 ≡ other = walk_place hop_at start (count + wrapped.0) there.0 there.1 ∙ sym (walk_place hop_at start hops other walk ∙ ap (place hop_at start) e ∙ wrapped.2) in
        let le = is_least.none_less wrapped.0 there.0 (let l = wrapped.1 in omega arith) (walk_rest hop_at start wrapped.0 count far there.0 comes_far there.1) in
        omega arith

  pub lost_there : (outcome : Outcome) → IsLost outcome → EndsAs hop_at start outcome → IsLostAt hop_at start outcome least
  lost_there (Arrives switches) lost ends = absurd lost
  lost_there (Stops cause) lost (hops, at, walk, stop) = stopped hops at cause walk stop
  lost_there Loops lost loops = (comes_again loops, none_less loops)
