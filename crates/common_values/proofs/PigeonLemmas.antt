-- Of more numbers below a bound than the bound, two are the same.
use Rattle.std.proofs.Common.{◌≡◌, ◌≢◌, ◌∙◌, ℕ, zero, suc, ◌<◌, ◌≤◌, arith, inl, inr, ◌⊎◌, if◌then◌else◌, ◌==◌}
use Rattle.std.proofs.lemmas.Bool.{cases_eq}
use Rattle.std.proofs.lemmas.Bool.Decides.{nat_tests}

-- one of the first values is v, or none is
found_below : (f : ℕ → ℕ) (v n : ℕ) → ((i : ℕ) × (i < n) × (f i ≡ v)) ⊎ ((i : ℕ) → i < n → f i ≢ v)
found_below f v zero = inr (λ i low. absurd (omega arith))
found_below f v (suc n) = elim (cases_eq (f n) v) [
  | inl same ↦ inl (n, omega arith, same)
  | inr other ↦ elim (found_below f v n) [
    | inl found ↦ inl (found.0, (let low = found.1 in omega arith), found.2)
    | inr none ↦ inr (λ i low. elim (cases_eq i n) [
      | inl last ↦ (λ is. other (ap_f i n last ∙ is))
      | inr before ↦ none i (omega arith)
    ])
  ]
]
  where
    ap_f : (i j : ℕ) → i ≡ j → f j ≡ f i
    ap_f i j e = rw e refl_f
      where
        refl_f : f j ≡ f j
        refl_f = λ _. f j

-- a value with the last one in place of the greatest
abbrev moved : (ℕ → ℕ) → ℕ → ℕ → ℕ → ℕ
moved f n v k = if f k == n then v else f k

-- of more numbers below n than n, two at different places are the same
pub pigeons : (n : ℕ) (f : ℕ → ℕ) → ((k : ℕ) → k ≤ n → f k < n) → (i : ℕ) × (j : ℕ) × (i < j) × (j ≤ n) × (f i ≡ f j)
pigeons zero f low = absurd (let h = low 0 (omega arith) in omega arith)
pigeons (suc n) f low = elim (found_below f (f (suc n)) (suc n)) [
  | inl found ↦ (found.0, suc n, found.1, omega arith, found.2)
  | inr none ↦ (
      let v = f (suc n) in
      let r = pigeons n (moved f n v) (λ k below. let a = low k (omega arith) in let b = low (suc n) (omega arith) in let c = none k (omega arith) in moved_low (f k) v n a b c) in
      (r.0, r.1, r.2, (let h = r.3 in omega arith), (let lt = r.2 in let le = r.3 in moved_same (f r.0) (f r.1) v n (none r.0 (omega arith)) (none r.1 (omega arith)) r.4)))
]
  where
    moved_low : (x v n : ℕ) → x < suc n → v < suc n → x ≢ v → (if x == n then v else x) < n
    moved_low x v n a b c = grind (arith, nat_tests)

    moved_same : (x y v n : ℕ) → x ≢ v → y ≢ v → (if x == n then v else x) ≡ (if y == n then v else y) → x ≡ y
    moved_same x y v n a b e = grind (arith, nat_tests)
