-- Lists of which each element goes with each later one, and lists of which all elements differ.
use Rattle.std.proofs.Common.{◌≢◌, ◌∙◌, sym, subst, List, [], ◌∷◌, ◌++◌, arith, inl, inr, All, AllPairs, Contains, map}
use Rattle.std.proofs.lemmas.List.Elements.{All-head, All-tail, All-append, All-map, All-contains, Contains-append_left, Contains-append_right, Contains-append_cases, Contains-get_or}
use Rattle.std.proofs.lemmas.List.Kept.{AllPairs-cons}
use Rattle.std.proofs.lemmas.List.Quantifiers.{all_pairs_push}
use Rattle.common_values.proofs.ListLemmas.{AllPairs-head, AllPairs-tail, All-from_members}
use Rattle.common_values.proofs.MemberLemmas.{Contains-here, Contains-later, Contains-cons_cases}

-- the first part of a list
pub AllPairs-front : {X : Type 0} (R : X → X → Type 0) (xs ys : List X) → AllPairs R (xs ++ ys) → AllPairs R xs
AllPairs-front R [] ys pairs = λ i j d lt low. absurd (omega arith)
AllPairs-front R (x ∷ xs) ys pairs =
    AllPairs-cons R x xs
    (All-from_members (R x) xs (λ y has. All-contains (R x) (xs ++ ys) y (AllPairs-head R x (xs ++ ys) pairs) (Contains-append_left xs ys y has)))
    (AllPairs-front R xs ys (AllPairs-tail R x (xs ++ ys) pairs))

-- the image of a list
pub AllPairs-map : {X Y : Type 0} (R : Y → Y → Type 0) (f : X → Y) (xs : List X) → AllPairs (λ a b. R (f a) (f b)) xs → AllPairs R (map f xs)
AllPairs-map R f [] pairs = λ i j d lt low. absurd (omega arith)
AllPairs-map R f (x ∷ xs) pairs =
    AllPairs-cons R (f x) (map f xs) (All-map (R (f x)) f xs (AllPairs-head (λ a b. R (f a) (f b)) x xs pairs)) (AllPairs-map R f xs (AllPairs-tail (λ a b. R (f a) (f b)) x xs pairs))

-- two lists of which each of the first goes with each of the second
pub AllPairs-append : {X : Type 0} (R : X → X → Type 0) (xs ys : List X) → AllPairs R xs → AllPairs R ys → All (λ x. All (R x) ys) xs → AllPairs R (xs ++ ys)
AllPairs-append R [] ys front back across = back
AllPairs-append R (x ∷ xs) ys front back across =
    AllPairs-cons R x (xs ++ ys) (All-append (R x) xs ys (AllPairs-head R x xs front) (All-head (λ z. All (R z) ys) x xs across))
    (AllPairs-append R xs ys (AllPairs-tail R x xs front) back (All-tail (λ z. All (R z) ys) x xs across))

-- one more value that is not among those that are all different
pub apart_insert : {X : Type 0} (xs ys : List X) (x : X) → AllPairs (λ a b. a ≢ b) (xs ++ ys) → (Contains (xs ++ ys) x → ⊥) → AllPairs (λ a b. a ≢ b) (xs ++ (x ∷ ys))
apart_insert [] ys x apart new =
    AllPairs-cons (λ a b. a ≢ b) x ys (All-from_members (λ y. x ≢ y) ys (λ y has same. new (subst (λ z. Contains ys z) (sym same) has))) apart
apart_insert (z ∷ xs) ys x apart new =
    let others = AllPairs-head (λ a b. a ≢ b) z (xs ++ ys) apart in
    AllPairs-cons (λ a b. a ≢ b) z (xs ++ (x ∷ ys))
    (All-from_members (λ y. z ≢ y) (xs ++ (x ∷ ys)) (λ y has. elim (Contains-append_cases xs (x ∷ ys) y has) [
      | inl front ↦ All-contains (λ y. z ≢ y) (xs ++ ys) y others (Contains-append_left xs ys y front)
      | inr back ↦ (elim (Contains-cons_cases x y ys back) [
        | inl is ↦ (λ same. new (subst (λ u. Contains (z ∷ (xs ++ ys)) u) (same ∙ sym is) (Contains-here z (xs ++ ys))))
        | inr later ↦ All-contains (λ y. z ≢ y) (xs ++ ys) y others (Contains-append_right xs ys y later)
      ])
    ]))
    (apart_insert xs ys x (AllPairs-tail (λ a b. a ≢ b) z (xs ++ ys) apart) (λ has. new (Contains-later z x (xs ++ ys) has)))

-- the same at the end
pub apart_push : {X : Type 0} (xs : List X) (x : X) → AllPairs (λ a b. a ≢ b) xs → (Contains xs x → ⊥) → AllPairs (λ a b. a ≢ b) (xs ++ x ∷ [])
apart_push xs x apart new = all_pairs_push (λ a b. a ≢ b) xs x apart (λ k d low same. new (subst (λ z. Contains xs z) same (Contains-get_or xs k d low)))
