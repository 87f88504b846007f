use Rattle.std.proofs.Common.{◌≡◌, ◌≢◌, ◌∙◌, AllPairs, sym, ap, refl, ℕ, zero, suc, ◌⊎◌, inl, inr, ◌-◌, ◌<◌, List, [], ◌∷◌, ◌++◌, append-nil, arith, length, get_or, take, map, Option, Some, None, Bool, true, false, cond, Contains, is_some, option_to_list}
use Rattle.std.specs.List.{position, position_or_len, list_any}
use Rattle.std.specs.Str.{bytes_eq}
use Rattle.std.proofs.lemmas.Bool.{cases_lt}
use Rattle.std.proofs.lemmas.List.{length-map, get_or-map, map-append, nil_from_length, length_push, get_or_default}
use Rattle.std.proofs.lemmas.List.Quantifiers.{position-Some}
use Rattle.std.proofs.lemmas.List.Folds.{list_any_none}
use Rattle.std.proofs.lemmas.Slice.Eq.{bytes_eq-Decides}
use Rattle.std.proofs.Math.Seq.{take-append_seam}
use Rattle.net_names.specs.Names.{place_of}
use Rattle.common_lines.proofs.LineLemmas.{position_none}

-- a name without a place is none of the names
pub no_place : (names : List (List ℕ)) (name : List ℕ) → place_of names name ≡ None → ¬ Contains names name
unfolding place_of
no_place names name none has =
    let no : bytes_eq (get_or names has.0 name) name ≡ false = position_none (λ (n : List ℕ). bytes_eq n name) names name none has.0 has.1 in
    let yes : bytes_eq (get_or names has.0 name) name ≡ true = (bytes_eq-Decides (get_or names has.0 name) name).1 has.2 in
    absurd (cc)

-- bytes compare alike from either side
bytes_eq-sym : (xs ys : List ℕ) → bytes_eq xs ys ≡ bytes_eq ys xs
bytes_eq-sym xs ys = go (bytes_eq xs ys) (bytes_eq ys xs) refl refl
  where
    go : (a b : Bool) → bytes_eq xs ys ≡ a → bytes_eq ys xs ≡ b → a ≡ b
    go true true s t = refl
    go false false s t = refl
    go true false s t = let h : bytes_eq ys xs ≡ true = (bytes_eq-Decides ys xs).1 (sym ((bytes_eq-Decides xs ys).0 s)) in absurd (cc)
    go false true s t = let h : bytes_eq xs ys ≡ true = (bytes_eq-Decides xs ys).1 (sym ((bytes_eq-Decides ys xs).0 t)) in absurd (cc)

-- all but the last
pub names_front : (names : List (List ℕ)) (name : List ℕ) → take (length (names ++ name ∷ []) - 1) (names ++ name ∷ []) ≡ names
names_front names name = let len : length (names ++ name ∷ []) - 1 ≡ length names = omega (arith, length_push names name) in rw len (take-append_seam names (name ∷ []))

zero_or : (n : ℕ) → (n ≡ 0) ⊎ (0 < n)
zero_or zero = inl refl
zero_or (suc n) = inr (omega arith)

module _ {X : Type 0} (f : X → List ℕ) where
  -- the first that passes, where the elements are seen by f
  position_or_len-map : (p : List ℕ → Bool) (q : X → Bool) → ((x : X) → q x ≡ p (f x)) → (xs : List X) → position_or_len q xs ≡ position_or_len p (map f xs)
  position_or_len-map p q same [] = refl
  position_or_len-map p q same (x ∷ xs) = rw (same x, position_or_len-map p q same xs) refl

  -- the place of a name, where the names are seen by f
  pub place-map : (xs : List X) (name : List ℕ) → position (λ x. bytes_eq name (f x)) xs ≡ place_of (map f xs) name
  unfolding place_of
  place-map xs name =
      let len = position_or_len-map (λ n. bytes_eq n name) (λ x. bytes_eq name (f x)) (λ x. bytes_eq-sym name (f x)) xs in
      rw (len, length-map xs f) refl

  -- none is alike, where the name is none of these
  pub none_alike : (xs : List X) (name : List ℕ) → ¬ Contains (map f xs) name → list_any (λ x. bytes_eq name (f x)) xs ≡ false
  none_alike xs name none = list_any_none (λ x. bytes_eq name (f x)) xs (λ i d low. other i d low (bytes_eq name (f (get_or xs i d))) refl)
    where
      other : (i : ℕ) (d : X) → i < length xs → (b : Bool) → bytes_eq name (f (get_or xs i d)) ≡ b → b ≡ false
      other i d low false t = refl
      other i d low true t = absurd (none (i, (omega (arith, length-map xs f)), (get_or-map f xs i d name low ∙ sym ((bytes_eq-Decides name (f (get_or xs i d))).0 t))))

  -- one more
  pub names_push : (xs ys : List X) (x : X) (name : List ℕ) → f x ≡ name → ¬ Contains (map f xs) name → ys ≡ cond (list_any (λ y. bytes_eq (f x) (f y)) xs) xs (xs ++ x ∷ []) → map f ys ≡ map f xs ++ name ∷ []
  names_push xs ys x name is none put =
      let free : list_any (λ y. bytes_eq (f x) (f y)) xs ≡ false = rw is (none_alike xs name none) in
      let all : ys ≡ xs ++ x ∷ [] = put ∙ ap (λ (b : Bool). cond b xs (xs ++ x ∷ [])) free in
      ap (map f) all ∙ map-append f xs (x ∷ []) ∙ ap (λ (n : List ℕ). map f xs ++ n ∷ []) is

  -- one less
  pub names_pop : (xs ys : List X) (r : Option X) → xs ≡ ys ++ option_to_list r → (0 < length xs → is_some r ≡ true) → map f ys ≡ take (length (map f xs) - 1) (map f xs)
  names_pop xs ys (Some x) parts some =
      let all : map f xs ≡ map f ys ++ f x ∷ [] = ap (map f) parts ∙ map-append f ys (x ∷ []) in
      rw all (sym (names_front (map f ys) (f x)))
  names_pop xs ys None parts some =
      let same : xs ≡ ys = parts ∙ append-nil ys in
      let none : length xs ≡ 0 = empty (length xs) refl in
      rw (← same, nil_from_length xs none) refl
    where
      empty : (n : ℕ) → length xs ≡ n → n ≡ 0
      empty n e = elim (zero_or n) [
        | inl z ↦ z
        | inr low ↦ (let h : false ≡ true = some (omega arith) in absurd (cc))
      ]

-- the place of a name that is found
pub place_found : (names : List (List ℕ)) (name : List ℕ) (i : ℕ) → place_of names name ≡ Some i → (i < length names) × (get_or names i name ≡ name)
unfolding place_of
place_found names name i at = let h = position-Some (λ (n : List ℕ). bytes_eq n name) names i name at in (h.0, (bytes_eq-Decides (get_or names i name) name).0 h.1)

-- a name that is none of these has no place
pub place_none : (names : List (List ℕ)) (name : List ℕ) → ¬ Contains names name → place_of names name ≡ None
place_none names name new = go (place_of names name) refl
  where
    go : (o : Option ℕ) → place_of names name ≡ o → o ≡ None
    go None e = refl
    go (Some i) e = let h = place_found names name i e in absurd (new (i, h.0, h.1))

-- where names are apart each has its own place
pub place_at : (names : List (List ℕ)) (i : ℕ) → AllPairs (λ n m. n ≢ m) names → i < length names → place_of names (get_or names i []) ≡ Some i
place_at names i apart within = go (place_of names name) refl
  where
    name : List ℕ
    name = get_or names i []

    here : get_or names i name ≡ name
    here = get_or_default names i name [] within

    same : (j : ℕ) → j < length names → get_or names j name ≡ name → j ≡ i
    same j low at = elim (cases_lt j i) [
      | inl before ↦ absurd (apart j i name before within (at ∙ sym here))
      | inr after ↦ elim (cases_lt i j) [
        | inl past ↦ absurd (apart i j name past low (here ∙ sym at))
        | inr eq ↦ omega arith
      ]
    ]

    go : (o : Option ℕ) → place_of names name ≡ o → o ≡ Some i
    go None e = absurd (no_place names name e (i, within, here))
    go (Some j) e = let h = place_found names name j e in ap Some (same j h.0 h.1)
