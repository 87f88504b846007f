use Rattle.std.proofs.Common.{◌≡◌, sym, ap, refl, ℕ, zero, suc, ◌<◌, List, [], ◌∷◌, ◌++◌, length, get_or, ◌⊎◌, inl, inr, Contains, arith}
use Rattle.std.proofs.lemmas.List.Elements.{Contains-get_or}
use Rattle.std.proofs.lemmas.List.Kept.{AllPairs-cons}
use Rattle.an_base.specs.Values.{EntryOf}
use Rattle.an_base.specs.Order.{IsBelow, LivesRise}
use Rattle.an_base.proofs.LifeLemmas.{below_same, below_both}

-- x is in a list, by recursion on the list
abbrev pub In : {A : Type 0} → A → List A → Type 0
In x [] = ⊥
In x (y ∷ ys) = (x ≡ y) ⊎ In x ys

-- a life is below those of a list
abbrev pub Under : EntryOf → List EntryOf → Type 0
Under x ys = (y : EntryOf) → In y ys → IsBelow x.life y.life

-- lives rise, by recursion on the list
abbrev pub Rises : List EntryOf → Type 0
Rises [] = Unit {0}
Rises (x ∷ xs) = Under x xs × Rises xs

in_at : {A : Type 0} (x : A) (xs : List A) (k : ℕ) → k < length xs → get_or xs k x ≡ x → In x xs
in_at x [] k low at = absurd (omega arith)
in_at x (y ∷ ys) zero low at = inl (sym at)
in_at x (y ∷ ys) (suc k) low at = inr (in_at x ys k (omega arith) at)

pub in_from : {A : Type 0} (x : A) (xs : List A) → Contains xs x → In x xs
in_from x xs has = in_at x xs has.0 has.1 has.2

pub contains_from : {A : Type 0} (x : A) (xs : List A) → In x xs → Contains xs x
contains_from x [] i = absurd i
contains_from x (y ∷ ys) (inl is) = (0, omega arith, sym is)
contains_from x (y ∷ ys) (inr i) = let has = contains_from x ys i in (suc has.0, omega arith, has.2)

pub in_append : {A : Type 0} (x : A) (xs ys : List A) → In x (xs ++ ys) → In x xs ⊎ In x ys
in_append x [] ys i = inr i
in_append x (z ∷ xs) ys (inl is) = inl (inl is)
in_append x (z ∷ xs) ys (inr i) = elim (in_append x xs ys i) [ inl j ↦ inl (inr j) | inr j ↦ inr j ]

pub in_left : {A : Type 0} (x : A) (xs ys : List A) → In x xs → In x (xs ++ ys)
in_left x [] ys i = absurd i
in_left x (z ∷ xs) ys (inl is) = inl is
in_left x (z ∷ xs) ys (inr i) = inr (in_left x xs ys i)

pub in_right : {A : Type 0} (x : A) (xs ys : List A) → In x ys → In x (xs ++ ys)
in_right x [] ys i = i
in_right x (z ∷ xs) ys i = inr (in_right x xs ys i)

-- members of two lists in the other order
pub in_swapped : {A : Type 0} (x : A) (xs ys : List A) → In x (xs ++ ys) → In x (ys ++ xs)
in_swapped x xs ys i = elim (in_append x xs ys i) [ inl j ↦ in_right x ys xs j | inr j ↦ in_left x ys xs j ]

at_place : (x y z : EntryOf) → z ≡ y → IsBelow x.life z.life → IsBelow x.life y.life
at_place x y z is low = rw (← is) low

pub rises_from : (xs : List EntryOf) → LivesRise xs → Rises xs
rises_from [] rise = tt
rises_from (x ∷ xs) rise = (
  λ y i. let has = contains_from y xs i in at_place x y (get_or xs has.0 y) has.2 (rise 0 (suc has.0) y (omega arith) (omega arith)),
  rises_from xs (λ i j d below within. rise (suc i) (suc j) d (omega arith) (omega arith)),
)

pub lives_rise_from : (xs : List EntryOf) → Rises xs → LivesRise xs
lives_rise_from [] rise = λ i j d below within. absurd (omega arith)
lives_rise_from (x ∷ xs) rise =
    AllPairs-cons (λ a b. IsBelow a.life b.life) x xs (λ k d low. rise.0 (get_or xs k d) (in_from (get_or xs k d) xs (Contains-get_or xs k d low))) (lives_rise_from xs rise.1)

-- in a list that rises there is one entry of a life
pub rising_apart : (a b : EntryOf) (xs : List EntryOf) → Rises xs → In a xs → In b xs → a.life ≡ b.life → a ≡ b
rising_apart a b [] rise i j life = absurd i
rising_apart a b (x ∷ xs) rise (inl p) (inl q) life = cc
rising_apart a b (x ∷ xs) rise (inl p) (inr j) life = absurd (below_same a.life b.life life (rw p (rise.0 b j)))
rising_apart a b (x ∷ xs) rise (inr i) (inl q) life = absurd (below_same b.life a.life (sym life) (rw q (rise.0 a i)))
rising_apart a b (x ∷ xs) rise (inr i) (inr j) life = rising_apart a b xs rise.1 i j life

first_same : (a b : EntryOf) (xs ys : List EntryOf) → Under a xs → Under b ys → In a (b ∷ ys) → In b (a ∷ xs) → a ≡ b
first_same a b xs ys low high (inl is) j = is
first_same a b xs ys low high (inr i) (inl is) = sym is
first_same a b xs ys low high (inr i) (inr j) = absurd (below_both a.life b.life (low b j) (high a i))

rest_in : (a b x : EntryOf) (xs ys : List EntryOf) → a ≡ b → Under a xs → In x xs → In x (b ∷ ys) → In x ys
rest_in a b x xs ys same low i (inl is) = absurd (below_same a.life x.life (ap (λ (e : EntryOf). e.life) (let e : a ≡ x = cc in e)) (low x i))
rest_in a b x xs ys same low i (inr j) = j

-- lists that rise are one if they have the same members
pub same_members : (xs ys : List EntryOf) → Rises xs → Rises ys → ((x : EntryOf) → In x xs → In x ys) → ((x : EntryOf) → In x ys → In x xs) → xs ≡ ys
same_members [] [] rise high f g = refl
same_members [] (y ∷ ys) rise high f g = absurd (g y (inl refl))
same_members (x ∷ xs) [] rise high f g = absurd (f x (inl refl))
same_members (x ∷ xs) (y ∷ ys) rise high f g =
    let same = first_same x y xs ys rise.0 high.0 (f x (inl refl)) (g y (inl refl)) in
    let rest = same_members xs ys rise.1 high.1 (λ z i. rest_in x y z xs ys same rise.0 i (f z (inr i))) (λ z i. rest_in y x z ys xs (sym same) high.0 i (g z (inr i))) in
    cc
