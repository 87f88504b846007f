use Rattle.std.proofs.Common.{◌≡◌, ◌∙◌, sym, ap, refl, suc, ◌≤◌, List, [], ◌∷◌, length, ◌⊎◌, inl, inr, arith}
use Rattle.topo_report.proofs.Members.{In}

-- no two of a list are one, by recursion on the list
abbrev pub AreApart : {A : Type 0} → List A → Type 0
AreApart [] = Unit {0}
AreApart (x ∷ xs) = (In x xs → ⊥) × AreApart xs

-- a list without one of its members
record Without {A : Type 0} (x : A) (ys : List A) : Type 0 where
  rest : List A
  long : length ys ≡ suc (length rest)
  others : (y : A) → In y ys → (y ≡ x) ⊎ In y rest

without : {A : Type 0} (x : A) (ys : List A) → In x ys → Without x ys
without x [] i = absurd i
without x (y ∷ ys) (inl is) = record { rest = ys; long = refl; others = λ z j. elim j [ inl same ↦ inl (same ∙ sym is) | inr k ↦ inr k ] }
without x (y ∷ ys) (inr i) =
    let w = without x ys i in
    record { rest = y ∷ w.rest; long = ap suc w.long; others = λ z j. elim j [ inl same ↦ inr (inl same) | inr k ↦ elim (w.others z k) [ inl same ↦ inl same | inr l ↦ inr (inr l) ] ] }

-- a list without repeats is no longer than one that has its members
pub length-le_from_apart : {A : Type 0} (xs ys : List A) → AreApart xs → ((x : A) → In x xs → In x ys) → length xs ≤ length ys
length-le_from_apart [] ys apart within = omega arith
length-le_from_apart {A} (x ∷ xs) ys apart within =
    let w = without x ys (within x (inl refl)) in
    let less = length-le_from_apart xs w.rest apart.1 (λ y i. keep w.rest y i (w.others y (within y (inr i)))) in
    omega (arith, w.long, less)
  where
    keep : (rest : List A) (y : A) → In y xs → (y ≡ x) ⊎ In y rest → In y rest
    keep rest y i (inl same) = absurd (apart.0 (rw (← same) i))
    keep rest y i (inr j) = j
