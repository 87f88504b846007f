-- Members of lists, and lists that are one since they rise and have the same members.
use Rattle.std.proofs.Common.{◌≡◌, ◌∙◌, sym, ap, subst, refl, List, [], ◌∷◌, arith, map, AllPairs, Contains, ◌⊎◌, inl, inr}
use Rattle.std.specs.Prelude.{Any}
use Rattle.std.proofs.lemmas.List.{length-map, get_or-map}
use Rattle.std.proofs.lemmas.List.Elements.{All-contains, Contains-append_right, Contains-append_cases, Contains-push_cases}
use Rattle.common_values.proofs.ListLemmas.{AllPairs-head, AllPairs-tail, Any-later, Any-cons_cases}

-- the first element is a member
pub Contains-here : {X : Type 0} (x : X) (xs : List X) → Contains (x ∷ xs) x
Contains-here x xs = (0, omega arith, refl)

-- and so is a later one
pub Contains-later : {X : Type 0} (x y : X) (xs : List X) → Contains xs y → Contains (x ∷ xs) y
Contains-later x y xs h = Contains-append_right (x ∷ []) xs y h

-- a member is the first or a later one
pub Contains-cons_cases : {X : Type 0} (x y : X) (xs : List X) → Contains (x ∷ xs) y → (x ≡ y) ⊎ Contains xs y
Contains-cons_cases x y xs h = elim (Contains-append_cases (x ∷ []) xs y h) [
  | inl first ↦ (elim (Contains-push_cases [] x y first) [ inl none ↦ absurd (let l = none.1 in omega arith) | inr is ↦ inl is ])
  | inr later ↦ inr later
]

-- lists that rise, by an order in which no two of their members are each before the other, are one if they have the same members
pub one_rising : {X : Type 0} (R : X → X → Type 0) (xs ys : List X) → ((x y : X) → Contains xs x → Contains xs y → R x y → R y x → ⊥) → AllPairs R xs → AllPairs R ys → ((x : X) → Contains xs x → Contains ys x) → ((y : X) → Contains ys y → Contains xs y) → xs ≡ ys
one_rising R [] [] one xs_rise ys_rise there here = refl
one_rising R [] (y ∷ ys) one xs_rise ys_rise there here = absurd (let h = here y (Contains-here y ys) in let l = h.1 in omega arith)
one_rising R (x ∷ xs) [] one xs_rise ys_rise there here = absurd (let h = there x (Contains-here x xs) in let l = h.1 in omega arith)
one_rising {X = X} R (x ∷ xs) (y ∷ ys) one xs_rise ys_rise there here =
    ap (λ z. z ∷ xs) same
    ∙ ap (λ l. y ∷ l) (one_rising R xs ys (λ a b has has'. one a b (Contains-later x a xs has) (Contains-later x b xs has')) (AllPairs-tail R x xs xs_rise) (AllPairs-tail R y ys ys_rise) in_ys in_xs)
  where
    before : (z : X) → Contains xs z → R x z
    before z has = All-contains (R x) xs z (AllPairs-head R x xs xs_rise) has

    after : (z : X) → Contains ys z → R y z
    after z has = All-contains (R y) ys z (AllPairs-head R y ys ys_rise) has

    not_self : R x x → ⊥
    not_self at = one x x (Contains-here x xs) (Contains-here x xs) at at

    same : x ≡ y
    same = elim (Contains-cons_cases y x ys (there x (Contains-here x xs))) [
      | inl is ↦ sym is
      | inr later ↦ elim (Contains-cons_cases x y xs (here y (Contains-here y ys))) [
        | inl is ↦ is
        | inr later' ↦ absurd (one x y (Contains-here x xs) (Contains-later x y xs later') (before y later') (after x later))
      ]
    ]

    in_ys : (z : X) → Contains xs z → Contains ys z
    in_ys z has = elim (Contains-cons_cases y z ys (there z (Contains-later x z xs has))) [
      | inl is ↦ absurd (not_self (subst (λ u. R x u) (sym (same ∙ is)) (before z has)))
      | inr later ↦ later
    ]

    in_xs : (z : X) → Contains ys z → Contains xs z
    in_xs z has = elim (Contains-cons_cases x z xs (here z (Contains-later y z ys has))) [
      | inl is ↦ absurd (not_self (subst (λ u. R u x) (sym same) (subst (λ u. R y u) (sym is) (after z has))))
      | inr later ↦ later
    ]

-- the image of a member
pub Contains-image : {X Y : Type 0} (f : X → Y) (xs : List X) (x : X) → Contains xs x → Contains (map f xs) (f x)
Contains-image {X = X} {Y = Y} f xs x (k, low, at) = (k, omega (arith, length-map {A = X} {B = Y}), get_or-map f xs k x (f x) low ∙ ap f at)

-- the image of a list has a value where an element has it
pub Contains-map : {X Y : Type 0} (f : X → Y) (xs : List X) (y : Y) → Any (λ x. f x ≡ y) xs → Contains (map f xs) y
Contains-map f [] y any = absurd (let l = any.2 in omega arith)
Contains-map f (x ∷ xs) y any = elim (Any-cons_cases (λ z. f z ≡ y) x xs any) [
  | inl is ↦ subst (λ z. Contains (f x ∷ map f xs) z) is (Contains-here (f x) (map f xs))
  | inr later ↦ Contains-later (f x) y (map f xs) (Contains-map f xs y later)
]

-- and an element has it where the image has a value
pub Any-from_map : {X Y : Type 0} (f : X → Y) (xs : List X) (y : Y) → Contains (map f xs) y → Any (λ x. f x ≡ y) xs
Any-from_map f [] y has = absurd (let l = has.1 in omega arith)
Any-from_map f (x ∷ xs) y has = elim (Contains-cons_cases (f x) y (map f xs) has) [
  | inl is ↦ (0, x, omega arith, refl, is)
  | inr later ↦ Any-later (λ z. f z ≡ y) x xs (Any-from_map f xs y later)
]
