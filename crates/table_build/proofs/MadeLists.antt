use Rattle.std.proofs.Common.{◌≡◌, sym, subst, ℕ, zero, suc, ◌+◌, ◌-◌, ◌<◌, ◌≤◌, List, [], ◌∷◌, Bool, true, arith, get_or, Contains, All, AllPairs, inl, inr}
use Rattle.std.specs.Prelude.{find}
use Rattle.std.specs.List.{flat_map, range_with_len}
use Rattle.std.proofs.lemmas.Bool.{cases_Bool, cases_eq}
use Rattle.std.proofs.lemmas.List.Elements.{All-weaker, Contains-append_left, Contains-append_right}
use Rattle.std.proofs.lemmas.List.FromFn.{get_or-range_with_len, length-range_with_len}
use Rattle.updown.specs.Routes.{IsLeast}
use Rattle.updown.proofs.LeastLemmas.{least_iff}
use Rattle.common_values.proofs.ListLemmas.{AllPairs-head, AllPairs-tail}
use Rattle.common_values.proofs.PairLemmas.{AllPairs-append}
use Rattle.common_values.proofs.FlatMapLemmas.{All-flat_map}

-- the lists of the elements of a list
pub in_flat : {X A : Type 0} (f : X → List A) (xs : List X) (x : X) (a : A) → Contains xs x → Contains (f x) a → Contains (flat_map f xs) a
in_flat f [] x a (k, low, e) has = absurd (omega arith)
in_flat f (y ∷ ys) x a (zero, low, e) has = Contains-append_left (f y) (flat_map f ys) a (subst (λ z. Contains (f z) a) (sym e) has)
in_flat f (y ∷ ys) x a (suc k, low, e) has = Contains-append_right (f y) (flat_map f ys) a (in_flat f ys x a (k, omega arith, e) has)

pub flat_rising : {X A : Type 0} (R : A → A → Type 0) (S : X → X → Type 0) (f : X → List A) (xs : List X) → AllPairs S xs → ((x : X) → AllPairs R (f x)) → ((x y : X) → S x y → All (λ a. All (R a) (f y)) (f x)) → AllPairs R (flat_map f xs)
flat_rising R S f [] pairs each across = λ i j d lt low. absurd (omega arith)
flat_rising R S f (x ∷ xs) pairs each across =
    AllPairs-append R (f x) (flat_map f xs) (each x) (flat_rising R S f xs (AllPairs-tail S x xs pairs) each across)
    (λ k d low. All-flat_map (R (get_or (f x) k d)) f xs (All-weaker (S x) (λ y. All (R (get_or (f x) k d)) (f y)) (λ y s. across x y s k d low) xs (AllPairs-head S x xs pairs)))

-- the numbers of a range
pub in_range : (a n k : ℕ) → a ≤ k → k < a + n → Contains (range_with_len a n) k
in_range a n k least most =
    let e = get_or-range_with_len a n (k - a) k (omega arith) in
    (k - a, omega (arith, length-range_with_len a n), omega (arith, e))

pub range_rising : (a n : ℕ) → AllPairs (λ p q. p < q) (range_with_len a n)
range_rising a n i j d lt low =
    let len = length-range_with_len a n in
    let e = get_or-range_with_len a n i d (omega arith) in
    let f = get_or-range_with_len a n j d (omega arith) in
    omega (arith, e, f)

-- what is found in a range is the least that passes there
pub find_least : (q : ℕ → Bool) (n a : ℕ) → IsLeast (λ m. (a ≤ m) × (m < a + n) × (q m ≡ true)) (find q (range_with_len a n))
find_least q zero a = λ m h. absurd (let l = h.0 in let k = h.1 in omega arith)
find_least q (suc n) a = elim (cases_Bool (q a)) [
  | inl t ↦ rw t ((omega arith, omega arith, t), λ m h. h.0)
  | inr f ↦ (rw f (least_iff (λ m. (a + 1 ≤ m) × (m < a + 1 + n) × (q m ≡ true)) (λ m. (a ≤ m) × (m < a + suc n) × (q m ≡ true)) (find q (range_with_len (a + 1) n))
      (λ m h. let l = h.0 in let k = h.1 in (omega arith, omega arith, h.2))
      (λ m h. let l = h.0 in let k = h.1 in elim (cases_eq m a) [
        | inl same ↦ absurd (let t : q a ≡ true = subst (λ z. q z ≡ true) same h.2 in cc)
        | inr other ↦ (omega arith, omega arith, h.2)
      ])
      (find_least q n (a + 1))))
]
