use Rattle.std.proofs.Common.{◌≡◌, ◌∙◌, sym, ap, ℕ, ◌+◌, ◌<◌, ◌≤◌, List, Some, None, true, false, arith, length, get_or, Less, Equal, Greater, inl, inr, refl}
use Rattle.std.specs.declared.cmp.Ordering.{Ordering}
use Rattle.std.specs.declared.result.Result.TheVariants.{Err}
use Rattle.std.specs.Ordering.{is_eq, is_lt, ordering_reverse}
use Rattle.std.specs.List.Sorted.{IsBinarySearchResult}
use Rattle.std.proofs.lemmas.Bool.{cases_Bool, cases_lt}
use Rattle.std.proofs.lemmas.Bool.Decides.{nat_tests}
use Rattle.std.proofs.lemmas.List.Sums.{position_or_len_is}
use Rattle.std.proofs.lemmas.List.Quantifiers.{position-Some}
use Rattle.std.proofs.lemmas.List.Sorted.{searchable_from_sorted}
use Rattle.an_base.specs.Values.{LifeId, EntryOf}
use Rattle.an_base.specs.Order.{life_cmp, LivesRise}
use Rattle.an_base.specs.TotalOrders.{life_total}
use Rattle.an_base.proofs.OrderLaws.{life_apart}
use Rattle.common_values.proofs.OrderingLemmas.{less_is}
use Rattle.an_base.proofs.LifeLemmas.{same_life, life_passes}
use Rattle.topo_graph.specs.Topology.{nothing, entry_at, life_at, place_of}
use Rattle.std.specs.Prelude.{Any, IsSome, ◌↔◌, Option}
use Rattle.std.proofs.lemmas.List.{get_or_default}

-- an order that is its own reverse is equality
own_reverse : (o : Ordering) → o ≡ ordering_reverse o → o ≡ Equal
own_reverse Less e = absurd (cc)
own_reverse Equal e = e
own_reverse Greater e = absurd (cc)

-- a life is equal to itself
pub life_same : (a : LifeId) → life_cmp a a ≡ Equal
life_same a = own_reverse (life_cmp a a) (life_total.antisymm a a)

-- what is less is not equal
less_not_equal : (o : Ordering) → is_lt o ≡ true → is_eq o ≡ false
less_not_equal Less e = refl
less_not_equal Equal e = absurd (cc)
less_not_equal Greater e = refl

-- lives rise along the entries
pub rises : (es : List EntryOf) (x y : ℕ) → LivesRise es → x < y → y < length es → life_cmp (life_at es x) (life_at es y) ≡ Less
rises es x y rising lt low = less_is (life_cmp (life_at es x) (life_at es y)) (rising x y nothing lt low)

-- the place of the life of an entry
pub place_found : (es : List EntryOf) (x : ℕ) (life : LifeId) → LivesRise es → x < length es → life_at es x ≡ life → place_of es life ≡ Some x
place_found es x life rising low at =
    let first = position_or_len_is (λ e. is_eq (life_cmp e.life life)) es x nothing (omega arith)
    (λ k lt. let r = rises es k x rising lt low in let s : life_cmp (life_at es k) life ≡ Less = rw (← at) r in rw s)
    (λ _. life_passes (life_at es x) life at) in
    rw first (grind (arith, nat_tests))

-- a life that no entry has has no place
pub place_lost : (es : List EntryOf) (life : LifeId) → ((x : ℕ) → x < length es → life_at es x ≡ life → ⊥) → place_of es life ≡ None
place_lost es life lost =
    let first = position_or_len_is (λ e. is_eq (life_cmp e.life life)) es (length es) nothing (omega arith)
    (λ k lt. elim (cases_Bool (is_eq (life_cmp (life_at es k) life))) [
      | inl is ↦ absurd (lost k lt (same_life (life_at es k) life is))
      | inr other ↦ other
    ])
    (λ lt. absurd (omega arith)) in
    rw first (grind (arith, nat_tests))

-- a place is that of an entry of the life
pub place_is : (es : List EntryOf) (x : ℕ) (life : LifeId) → place_of es life ≡ Some x → (x < length es) × (life_at es x ≡ life)
place_is es x life e =
    let found = position-Some (λ e. is_eq (life_cmp e.life life)) es x nothing e in
    (found.0, same_life (life_at es x) life found.1)

-- the lives can be searched
searchable : (es : List EntryOf) → LivesRise es → (k : ℕ) (d : EntryOf) → 0 ≤ k → k + 1 < length es → is_lt (life_cmp (get_or es (k + 1) d).life (get_or es k d).life) ≡ false
searchable es rising k d least low =
    let up = less_is _ (rising k (k + 1) d (omega arith) low) in
    rw (life_total.antisymm (get_or es (k + 1) d).life (get_or es k d).life, up)

-- what a search for a life finds
pub search_found : (es : List EntryOf) (life : LifeId) (x : ℕ) → LivesRise es → x < length es → ((d : EntryOf) → life_cmp (get_or es x d).life life ≡ Equal) → Some x ≡ place_of es life
search_found es life x rising low at = sym (place_found es x life rising low (life_apart (life_at es x) life (at nothing)))

pub search_lost : (es : List EntryOf) (life : LifeId) (i : ℕ) → LivesRise es → IsBinarySearchResult (λ e. life_cmp e.life life) es (Err i) → None ≡ place_of es life
search_lost es life i rising result =
    let parts = result (searchable_from_sorted life_total (λ e. e.life) es life (searchable es rising)) in
    sym (place_lost es life (λ x low at. elim (cases_lt x i) [
      | inl before ↦ (let l = parts.0 x nothing (omega arith) before in let s = life_same life in absurd (let t : life_cmp (life_at es x) life ≡ Equal = rw at s in cc))
      | inr after ↦ (let l = parts.1 x nothing (omega arith) low in let s = life_same life in absurd (let t : life_cmp (life_at es x) life ≡ Equal = rw at s in cc))
    ]))

-- a life has a place exactly where an entry has it
pub place_there : (es : List EntryOf) (life : LifeId) → LivesRise es → IsSome (place_of es life) ↔ Any (λ e. e.life ≡ life) es
place_there es life rising = (
  go (place_of es life) refl,
  λ any.
      let at : life_at es any.0 ≡ life = ap (λ (e : EntryOf). e.life) (get_or_default es any.0 nothing any.1 any.2 ∙ any.3) ∙ any.4 in
      rw (place_found es any.0 life rising any.2 at) refl,
)
  where
    go : (o : Option ℕ) → place_of es life ≡ o → IsSome o → Any (λ e. e.life ≡ life) es
    go None e some = absurd (cc)
    go (Some x) e some = let is = place_is es x life e in (x, entry_at es x, is.0, get_or_default es x (entry_at es x) nothing is.0, is.1)
