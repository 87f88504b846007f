-- Elements of lists and values of options, as several crates need them beside std's.
use Rattle.std.proofs.Common.{◌≡◌, ◌∙◌, sym, refl, ap, subst, ℕ, zero, suc, ◌+◌, List, [], ◌∷◌, ◌++◌, Option, Some, None, true, arith, add-one, length, map, zip, All, AllPairs, Contains, ◌⊎◌, inl, inr}
use Rattle.std.specs.Prelude.{Any, slice_get, is_some}
use Rattle.std.specs.List.{range_with_len}
use Rattle.std.proofs.lemmas.List.Elements.{All-weaker, All-contains_itself, Contains-append_left, Contains-append_right}
use Rattle.std.proofs.lemmas.Option.{none-some}

-- the first element with each later one
pub AllPairs-head : {X : Type 0} (R : X → X → Type 0) (x : X) (xs : List X) → AllPairs R (x ∷ xs) → All (R x) xs
AllPairs-head R x xs pairs = λ k d low. pairs 0 (suc k) d (omega arith) (omega arith)

-- the later elements with one another
pub AllPairs-tail : {X : Type 0} (R : X → X → Type 0) (x : X) (xs : List X) → AllPairs R (x ∷ xs) → AllPairs R xs
AllPairs-tail R x xs pairs = λ i j d lt low. pairs (suc i) (suc j) d (omega arith) (omega arith)

-- an element of the first of two lists
pub Any-front : {X : Type 0} (P : X → Type 0) (xs ys : List X) → Any P xs → Any P (xs ++ ys)
Any-front P xs ys (k, x, low, is, p) = let h = Contains-append_left xs ys x (k, low, is) in (h.0, x, h.1, h.2, p)

-- the element at a place stays where more come after
pub get_front : {X : Type 0} (xs ys : List X) (n : ℕ) (x : X) → slice_get xs n ≡ Some x → slice_get (xs ++ ys) n ≡ Some x
get_front [] ys n x is = absurd (none-some x is)
get_front (y ∷ xs) ys zero x is = is
get_front (y ∷ xs) ys (suc n) x is = get_front xs ys n x is

-- one more number
pub range_more : (a n : ℕ) → range_with_len a (n + 1) ≡ range_with_len a n ++ (a + n) ∷ []
range_more a n = rw add-one (next a n)
  where
    next : (a n : ℕ) → range_with_len a (suc n) ≡ range_with_len a n ++ (a + n) ∷ []
    next a zero = let e : a + 0 ≡ a = omega arith in rw e refl
    next a (suc n) = let e : a + suc n ≡ a + 1 + n = omega arith in rw e (ap (λ (ns : List ℕ). a ∷ ns) (next (a + 1) n))

-- one more number from 0 on
pub places_more : (n : ℕ) → range_with_len 0 (n + 1) ≡ range_with_len 0 n ++ n ∷ []
places_more n = let e : 0 + n ≡ n = omega arith in range_more 0 n ∙ ap (λ (k : ℕ). range_with_len 0 n ++ k ∷ []) e

-- the value that an option is tested to have
pub some_is : {X : Type 0} (o : Option X) → is_some o ≡ true → (x : X) × (o ≡ Some x)
some_is None is = absurd (cc)
some_is (Some x) is = (x, refl)

-- a later element has what it has
pub Any-later : {X : Type 0} (P : X → Type 0) (x : X) (xs : List X) → Any P xs → Any P (x ∷ xs)
Any-later P x xs (k, y, low, is, p) = (suc k, y, omega arith, is, p)

-- it is the first element that has it, or a later one
pub Any-cons_cases : {X : Type 0} (P : X → Type 0) (x : X) (xs : List X) → Any P (x ∷ xs) → P x ⊎ Any P xs
Any-cons_cases P x xs (zero, y, low, is, p) = inl (subst P (sym is) p)
Any-cons_cases P x xs (suc k, y, low, is, p) = inr (k, y, omega arith, is, p)

-- what follows of an element
pub Any-weaker : {X : Type 0} (P Q : X → Type 0) → ((x : X) → P x → Q x) → (xs : List X) → Any P xs → Any Q xs
Any-weaker P Q f xs (k, x, low, is, p) = (k, x, low, is, f x p)

-- an element of the second of two lists
pub Any-back : {X : Type 0} (P : X → Type 0) (xs ys : List X) → Any P ys → Any P (xs ++ ys)
Any-back P xs ys (k, x, low, is, p) = let h = Contains-append_right xs ys x (k, low, is) in (h.0, x, h.1, h.2, p)

-- an element of the image
pub Any-map : {X Y : Type 0} (P : Y → Type 0) (f : X → Y) (xs : List X) → Any (λ x. P (f x)) xs → Any P (map f xs)
Any-map P f [] (k, x, low, is, p) = absurd (omega arith)
Any-map P f (y ∷ ys) (zero, x, low, is, p) = (0, f x, omega arith, ap f is, p)
Any-map P f (y ∷ ys) (suc k, x, low, is, p) = let r = Any-map P f ys (k, x, omega arith, is, p) in (suc r.0, r.1, let l = r.2 in omega arith, r.3, r.4)

-- what holds of each member
pub All-from_members : {X : Type 0} (P : X → Type 0) (xs : List X) → ((x : X) → Contains xs x → P x) → All P xs
All-from_members P xs f = All-weaker (Contains xs) P f xs (All-contains_itself xs)

-- one more pair
pub zip_push : {X Y : Type 0} (xs : List X) (ys : List Y) (x : X) (y : Y) → length xs ≡ length ys → zip (xs ++ x ∷ []) (ys ++ y ∷ []) ≡ zip xs ys ++ (x, y) ∷ []
zip_push [] [] x y same = refl
zip_push [] (v ∷ ys) x y same = absurd (omega arith)
zip_push (u ∷ xs) [] x y same = absurd (omega arith)
zip_push {X} {Y} (u ∷ xs) (v ∷ ys) x y same = ap (λ (ps : List (X × Y)). (u, v) ∷ ps) (zip_push xs ys x y (omega arith))
