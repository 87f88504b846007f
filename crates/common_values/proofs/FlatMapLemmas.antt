-- Lists that are made of lists, one for each element of another.
use Rattle.std.proofs.Common.{◌≡◌, ◌∙◌, sym, ap, subst, ℕ, ◌<◌, ◌+◌, List, [], ◌∷◌, ◌++◌, arith, length, get_or, All, AllPairs, Contains, inl, inr, take, add-one, append-nil}
use Rattle.std.proofs.Math.Seq.{take-suc}
use Rattle.std.specs.Prelude.{Any, flat_map}
use Rattle.std.proofs.lemmas.List.Elements.{All-append, All-head, All-nil, All-tail, Contains-append_left, Contains-append_right}
use Rattle.std.proofs.lemmas.Grind.{flat_map-append}
use Rattle.common_values.proofs.ListLemmas.{AllPairs-head, AllPairs-tail, Any-front, Any-back, Any-cons_cases}
use Rattle.common_values.proofs.MemberLemmas.{Contains-cons_cases}
use Rattle.common_values.proofs.PairLemmas.{AllPairs-append}

-- what one of the pieces has
pub Contains-flat_map : {X Y : Type 0} (f : X → List Y) (xs : List X) (x : X) (y : Y) → Contains xs x → Contains (f x) y → Contains (flat_map f xs) y
Contains-flat_map f [] x y has piece = absurd (let low = has.1 in omega arith)
Contains-flat_map f (z ∷ zs) x y has piece = elim (Contains-cons_cases z x zs has) [
  | inl same ↦ Contains-append_left (f z) (flat_map f zs) y (subst (λ w. Contains (f w) y) (sym same) piece)
  | inr later ↦ Contains-append_right (f z) (flat_map f zs) y (Contains-flat_map f zs x y later piece)
]

-- what all elements of all pieces have
pub All-flat_map : {X Y : Type 0} (P : Y → Type 0) (f : X → List Y) (xs : List X) → All (λ x. All P (f x)) xs → All P (flat_map f xs)
All-flat_map P f [] all = All-nil P
All-flat_map P f (x ∷ xs) all = All-append P (f x) (flat_map f xs) (All-head (λ x. All P (f x)) x xs all) (All-flat_map P f xs (All-tail (λ x. All P (f x)) x xs all))

-- what one of the lists has they have together
pub Any-flat_map : {X A : Type 0} (P : A → Type 0) (f : X → List A) (xs : List X) → Any (λ x. Any P (f x)) xs → Any P (flat_map f xs)
Any-flat_map P f [] any = let low = any.2 in absurd (omega arith)
Any-flat_map P f (x ∷ xs) any = elim (Any-cons_cases (λ y. Any P (f y)) x xs any) [
  | inl here ↦ Any-front P (f x) (flat_map f xs) here
  | inr later ↦ Any-back P (f x) (flat_map f xs) (Any-flat_map P f xs later)
]

-- one piece more
pub flat_map-more : {X Y : Type 0} (f : X → List Y) (xs : List X) (i : ℕ) (d : X) → i < length xs → flat_map f (take (i + 1) xs) ≡ flat_map f (take i xs) ++ f (get_or xs i d)
flat_map-more f xs i d low =
    rw (add-one i, take-suc xs i d low) (flat_map-append f (take i xs) (get_or xs i d ∷ []) ∙ ap (λ ys. flat_map f (take i xs) ++ ys) (append-nil (f (get_or xs i d))))

-- a list of which each element goes with each later one, piece by piece
pub AllPairs-flat_map : {X Y : Type 0} (R : Y → Y → Type 0) (f : X → List Y) (xs : List X) → All (λ x. AllPairs R (f x)) xs → AllPairs (λ x z. All (λ y. All (R y) (f z)) (f x)) xs → AllPairs R (flat_map f xs)
AllPairs-flat_map R f [] inside across = λ i j d lt low. absurd (omega arith)
AllPairs-flat_map R f (x ∷ xs) inside across =
    let later = AllPairs-head (λ a b. All (λ y. All (R y) (f b)) (f a)) x xs across in
    AllPairs-append R (f x) (flat_map f xs) (All-head (λ a. AllPairs R (f a)) x xs inside)
    (AllPairs-flat_map R f xs (All-tail (λ a. AllPairs R (f a)) x xs inside) (AllPairs-tail (λ a b. All (λ y. All (R y) (f b)) (f a)) x xs across))
    (λ k d low. All-flat_map (R (get_or (f x) k d)) f xs (λ m e within. later m e within k d low))
