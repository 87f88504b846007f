-- What a test keeps of a list, and of a range of numbers.
use Rattle.std.proofs.Common.{◌≡◌, sym, subst, ℕ, zero, suc, ◌+◌, ◌-◌, ◌<◌, ◌≤◌, List, [], ◌∷◌, Bool, true, arith, inl, inr}
use Rattle.std.specs.Prelude.{AllPairs, Contains, filter}
use Rattle.std.specs.List.{range_with_len}
use Rattle.std.proofs.lemmas.Bool.{cases_Bool}
use Rattle.std.proofs.lemmas.List.Elements.{All-contains, All-contains_itself, All-filter, filter_passes}
use Rattle.std.proofs.lemmas.List.FromFn.{get_or-range_with_len, length-range_with_len}
use Rattle.std.proofs.lemmas.List.Kept.{AllPairs-filter}
use Rattle.common_values.proofs.MemberLemmas.{Contains-later, one_rising}

-- what passes a test is kept
pub Contains-kept : {X : Type 0} (p : X → Bool) (xs : List X) (x : X) → Contains xs x → p x ≡ true → Contains (filter p xs) x
Contains-kept p [] x (k, low, is) passes = absurd (omega arith)
Contains-kept p (y ∷ ys) x (zero, low, is) passes = let here : p y ≡ true = subst (λ v. p v ≡ true) (sym is) passes in rw here (0, omega arith, is)
Contains-kept p (y ∷ ys) x (suc k, low, is) passes =
    let later = Contains-kept p ys x (k, omega arith, is) passes in
    elim (cases_Bool (p y)) [
      | inl here ↦ rw here (Contains-later y x (filter p ys) later)
      | inr not_here ↦ rw not_here later
    ]

-- and what is kept passes
pub kept_passes : {X : Type 0} (p : X → Bool) (xs : List X) (x : X) → Contains (filter p xs) x → p x ≡ true
kept_passes p xs x has = All-contains (λ y. p y ≡ true) (filter p xs) x (filter_passes p xs) has

-- and was there
pub kept_member : {X : Type 0} (p : X → Bool) (xs : List X) (x : X) → Contains (filter p xs) x → Contains xs x
kept_member p xs x has = All-contains (Contains xs) (filter p xs) x (All-filter p (Contains xs) xs (All-contains_itself xs)) has

-- the members of a range
pub within_range : (n a x : ℕ) → Contains (range_with_len a n) x → (a ≤ x) × (x < a + n)
within_range n a x (k, low, is) =
    let size = length-range_with_len a n in
    let at = get_or-range_with_len a n k x (omega arith) in
    (omega arith, omega arith)

pub in_range : (n a x : ℕ) → a ≤ x → x < a + n → Contains (range_with_len a n) x
in_range n a x least most =
    let at = get_or-range_with_len a n (x - a) x (omega arith) in
    (x - a, omega (arith, length-range_with_len a n), omega (arith, at))

-- a range rises
pub range_rising : (n a : ℕ) → AllPairs (λ before after. before < after) (range_with_len a n)
range_rising n a i j d less low =
    let size = length-range_with_len a n in
    let first = get_or-range_with_len a n i d (omega arith) in
    let second = get_or-range_with_len a n j d (omega arith) in
    omega arith

-- and so does what a test keeps of it
pub range_rises : (p : ℕ → Bool) (n a : ℕ) → AllPairs (λ before after. before < after) (filter p (range_with_len a n))
range_rises p n a = AllPairs-filter (λ before after. before < after) p (range_with_len a n) (range_rising n a)

-- that is the rising list of the numbers of the range that pass
pub kept_range : (p : ℕ → Bool) (n a : ℕ) (xs : List ℕ) → AllPairs (λ before after. before < after) xs → ((x : ℕ) → Contains xs x → (a ≤ x) × (x < a + n) × (p x ≡ true)) → ((x : ℕ) → a ≤ x → x < a + n → p x ≡ true → Contains xs x) → filter p (range_with_len a n) ≡ xs
kept_range p n a xs rise has only = one_rising (λ before after. before < after) (filter p (range_with_len a n)) xs (λ x y first second less more. omega arith) (range_rises p n a) rise
    (λ x here. let inside = within_range n a x (kept_member p (range_with_len a n) x here) in only x inside.0 inside.1 (kept_passes p (range_with_len a n) x here))
    (λ x there. let h = has x there in Contains-kept p (range_with_len a n) x (in_range n a x h.0 h.1) h.2)
