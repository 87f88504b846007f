-- Through how many switches routes go, along a path that is settled from its end.
use Rattle.std.proofs.Common.{◌≡◌, ◌∙◌, sym, ap, subst, refl, ℕ, ◌+◌, ◌-◌, ◌<◌, ◌≤◌, List, length, get_or, set, replicate, inl, inr, arith}
use Rattle.std.proofs.lemmas.Bool.{cases_eq, cases_lt}
use Rattle.std.proofs.lemmas.List.{get_or-replicate, get_or-set_other, get_or-set_same, get_or_past, length-replicate}
use Rattle.fabric_counts.specs.Heights.{AreHeights, AreLow, IsChain, IsSettling, IsWay, IsWayTo}
use Rattle.fabric_counts.specs.declared.height.Way.{Way}
use Rattle.fabric_routes.specs.declared.hop.Hop.{Hop}
use Rattle.fabric_routes.specs.declared.hop.Hop.TheVariants.{On, Arrive}
use Rattle.fabric_routes.specs.declared.hop.Outcome.TheVariants.{Arrives}
use Rattle.fabric_routes.specs.Routes.{EndsAs}
use Rattle.fabric_routes.proofs.TraceLemmas.{ends_longer}

pub no_height : (count at : ℕ) → ◌≡◌ {A = ℕ} (get_or (replicate count 0) at 0) 0
no_height count at = elim (cases_lt at count) [
  | inl low ↦ get_or-replicate count at 0 0 low
  | inr past ↦ (let size = length-replicate {A = ℕ} count 0 in get_or_past (replicate count 0) at 0 (omega arith))
]

module _ (hop_at : ℕ → Hop) where
  -- none is known
  pub heights_none : (count : ℕ) → AreHeights hop_at (replicate count 0)
  heights_none count at some = absurd (let none = no_height count at in omega arith)

  -- one more is
  heights_set : (heights : List ℕ) (at height : ℕ) → at < length heights → EndsAs hop_at at (Arrives height) → AreHeights hop_at heights → AreHeights hop_at (set heights at height)
  heights_set heights at height low ends are other some = elim (cases_eq other at) [
    | inl same ↦ (
        let here : get_or (set heights at height) other 0 ≡ height = ap (λ (k : ℕ). get_or (set heights at height) k 0) same ∙ get_or-set_same heights at height 0 low in
        subst (λ (n : ℕ). EndsAs hop_at other (Arrives n)) (sym here) (subst (λ (s : ℕ). EndsAs hop_at s (Arrives height)) (sym same) ends))
    | inr away ↦ (
        let there = get_or-set_other heights at other height 0 away in
        subst (λ (n : ℕ). EndsAs hop_at other (Arrives n)) (sym there) (are other (subst (λ (n : ℕ). 0 < n) there some)))
  ]

  pub way_first : (switches start : ℕ) (path : List ℕ) → IsWayTo hop_at switches start path 0 start
  way_first switches start path = record {
    chain = λ place low. absurd (omega arith);
    low = λ place low. absurd (omega arith);
    begins = λ _. refl;
    first = λ some. absurd (omega arith);
    leads = λ some. absurd (omega arith);
  }

  module _ (switches start : ℕ) (path : List ℕ) (count at : ℕ) (is : IsWayTo hop_at switches start path count at) where
    -- from there on it is known
    pub way_known : (beyond : ℕ) → EndsAs hop_at at (Arrives beyond) → IsWay hop_at switches start path (record { count = count; beyond = beyond })
    way_known beyond ends = record {
      chain = is.chain;
      low = is.low;
      begins = λ none. subst (λ (s : ℕ). EndsAs hop_at s (Arrives beyond)) (is.begins none) ends;
      first = is.first;
      last = λ some. (let leads = is.leads some in ends_longer hop_at (get_or path (count - 1) 0) (On leads.0 at) (Arrives beyond) leads.1 ends);
    }

    -- one switch more on the path
    module _ (room : count < length path) (low : at < switches) where
      old : (place : ℕ) → place < count → get_or (set path count at) place 0 ≡ get_or path place 0
      old place before = get_or-set_other path count place at 0 (omega arith)

      here : get_or (set path count at) count 0 ≡ at
      here = get_or-set_same path count at 0 room

      last_here : get_or (set path count at) (count + 1 - 1) 0 ≡ at
      last_here = ap (λ (k : ℕ). get_or (set path count at) k 0) (let e : count + 1 - 1 ≡ count = omega arith in e) ∙ here

      chain_more : IsChain hop_at (set path count at) (count + 1)
      chain_more place within = elim (cases_lt (place + 1) count) [
        | inl before ↦ (
            let step = is.chain place before in
            (step.0, ap hop_at (old place (omega arith)) ∙ step.1 ∙ ap (λ (n : ℕ). On step.0 n) (sym (old (place + 1) before))))
        | inr end ↦ (
            let last : place ≡ count - 1 = omega arith in
            let next : place + 1 ≡ count = omega arith in
            let step = is.leads (omega arith) in (
              step.0,
              ap hop_at (old place (omega arith)) ∙ ap (λ (k : ℕ). hop_at (get_or path k 0)) last ∙ step.1
                  ∙ ap (λ (n : ℕ). On step.0 n) (sym (ap (λ (k : ℕ). get_or (set path count at) k 0) next ∙ here)),
            ))
      ]

      low_more : AreLow switches (set path count at) (count + 1)
      low_more place within = elim (cases_eq place count) [
        | inl same ↦ subst (λ (n : ℕ). n < switches) (sym (ap (λ (k : ℕ). get_or (set path count at) k 0) same ∙ here)) low
        | inr before ↦ subst (λ (n : ℕ). n < switches) (sym (old place (omega arith))) (is.low place (omega arith))
      ]

      first_more : get_or (set path count at) 0 0 ≡ start
      first_more = elim (cases_eq count 0) [
        | inl none ↦ ap (λ (k : ℕ). get_or (set path count at) k 0) (sym none) ∙ here ∙ is.begins none
        | inr some ↦ old 0 (omega arith) ∙ is.first (omega arith)
      ]

      pub way_more : (port next : ℕ) → hop_at at ≡ On port next → IsWayTo hop_at switches start (set path count at) (count + 1) next
      way_more port next on = record {
        chain = chain_more;
        low = low_more;
        begins = λ none. absurd (omega arith);
        first = λ _. first_more;
        leads = λ _. (port, ap hop_at last_here ∙ on);
      }

      -- the last one
      pub way_end : hop_at at ≡ Arrive → IsWay hop_at switches start (set path count at) (record { count = count + 1; beyond = 0 })
      way_end arrives = record {
        chain = chain_more;
        low = low_more;
        begins = λ none. absurd (omega arith);
        first = λ _. first_more;
        last = λ _. subst (λ (s : ℕ). EndsAs hop_at s (Arrives 1)) (sym last_here) (0, at, refl, arrives, refl);
      }

  pub settle_first : (path : List ℕ) (way : Way) → IsSettling hop_at path way way.count way.beyond
  settle_first path way = record { done = λ less. absurd (omega arith); none = λ _. refl }

  module _ (switches start : ℕ) (path : List ℕ) (way : Way) (is : IsWay hop_at switches start path way) where
    settle_ends : (left height : ℕ) → left < way.count → IsSettling hop_at path way (left + 1) height → EndsAs hop_at (get_or path left 0) (Arrives (height + 1))
    settle_ends left height less so_far = elim (cases_lt (left + 1) way.count) [
      | inl before ↦ (
          let step = is.chain left before in
          ends_longer hop_at (get_or path left 0) (On step.0 (get_or path (left + 1) 0)) (Arrives height) step.1 (so_far.done before))
      | inr end ↦ (
          let last : way.count - 1 ≡ left = omega arith in
          let same : way.beyond ≡ height = sym (so_far.none (omega arith)) in
          subst (λ (k : ℕ). EndsAs hop_at (get_or path k 0) (Arrives (height + 1))) last (subst (λ (n : ℕ). EndsAs hop_at (get_or path (way.count - 1) 0) (Arrives (n + 1))) same (is.last (omega arith))))
    ]

    -- one switch before
    pub settle_more : (heights : List ℕ) (after left height : ℕ) → after ≡ left + 1 → after ≤ way.count → get_or path left 0 < length heights → AreHeights hop_at heights × IsSettling hop_at path way after height → AreHeights hop_at (set heights (get_or path left 0) (height + 1)) × IsSettling hop_at path way left (height + 1)
    settle_more heights after left height one low fits so_far =
        let ends = settle_ends left height (omega arith) (subst (λ (n : ℕ). IsSettling hop_at path way n height) one so_far.1) in
        (heights_set heights (get_or path left 0) (height + 1) fits ends so_far.0, record { done = λ _. ends; none = λ end. absurd (omega arith) })

    pub settle_last : (left height : ℕ) → left ≡ 0 → IsSettling hop_at path way left height → EndsAs hop_at start (Arrives height)
    settle_last left height all so_far = elim (cases_eq way.count 0) [
      | inl none ↦ subst (λ (n : ℕ). EndsAs hop_at start (Arrives n)) (sym (so_far.none (omega arith))) (is.begins none)
      | inr some ↦ subst (λ (s : ℕ). EndsAs hop_at s (Arrives height)) (ap (λ (k : ℕ). get_or path k 0) all ∙ is.first (omega arith)) (so_far.done (omega arith))
    ]
