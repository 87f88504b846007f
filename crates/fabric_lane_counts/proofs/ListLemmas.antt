-- Things of a kind that are among those of another one and as many are all of these.
use Rattle.std.proofs.Common.{◌≡◌, ◌≢◌, sym, subst, ℕ, ◌-◌, ◌≤◌, ◌⊎◌, List, [], ◌∷◌, arith, length, inl, inr, AllPairs, Contains}
use Rattle.std.proofs.lemmas.List.Elements.{All-contains}
use Rattle.common_values.proofs.ListLemmas.{AllPairs-head, AllPairs-tail}
use Rattle.common_values.proofs.MemberLemmas.{Contains-cons_cases, Contains-here, Contains-later}
use Rattle.fabric_routes.specs.Counting.{IsCountOf}
use Rattle.fabric_routes.proofs.CountLemmas.{count_without}

module _ (A : Type 0) (same : (x y : A) → (x ≡ y) ⊎ (x ≢ y)) where
  -- so many things, each once, are no more than all
  no_more : (xs : List A) (Is : A → Type 0) (count : ℕ) → AllPairs (λ a b. a ≢ b) xs → ((x : A) → Contains xs x → Is x) → IsCountOf Is count → length xs ≤ count
  no_more [] Is count apart are all = omega arith
  no_more (x ∷ xs) Is count apart are all =
      let (some, others) = count_without A Is x count (λ y. same y x) (are x (Contains-here x xs)) all in
      let rest = no_more xs (λ y. Is y × (y ≢ x)) (count - 1) (AllPairs-tail (λ a b. a ≢ b) x xs apart)
      (λ y later. (are y (Contains-later x y xs later), λ e. All-contains (λ z. x ≢ z) xs y (AllPairs-head (λ a b. a ≢ b) x xs apart) later (sym e))) others in
      omega arith

  is_in : (x : A) (xs : List A) → Contains xs x ⊎ (Contains xs x → ⊥)
  is_in x [] = inr (λ has. absurd (let low = has.1 in omega arith))
  is_in x (y ∷ ys) = elim (same y x) [
    | inl first ↦ inl (subst (λ (z : A). Contains (y ∷ ys) z) first (Contains-here y ys))
    | inr other ↦ elim (is_in x ys) [
      | inl later ↦ inl (Contains-later y x ys later)
      | inr none ↦ inr (λ has. elim (Contains-cons_cases y x ys has) [
        | inl first ↦ other first
        | inr later ↦ none later
      ])
    ]
  ]

  pub as_many_are_all : (Is All : A → Type 0) (count : ℕ) → ((x : A) → Is x → All x) → IsCountOf Is count → IsCountOf All count → (x : A) → All x → Is x
  as_many_are_all Is All count among some all x of = elim (is_in x some.things) [
    | inl has ↦ some.only x has
    | inr none ↦ absurd (
        let (first, others) = count_without A All x count (λ y. same y x) of all in
        let fit = no_more some.things (λ y. All y × (y ≢ x)) (count - 1) some.apart (λ y has. (among y (some.only y has), λ e. none (subst (λ (z : A). Contains some.things z) e has))) others in
        let size = some.size in
        omega arith)
  ]
