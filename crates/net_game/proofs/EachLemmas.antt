-- What is so of each of a list, by recursion on the list.

use Rattle.std.specs.Prelude.{◌≡◌, ℕ, zero, suc, List, [], ◌∷◌, ◌++◌, All, cond, drop, filter, map, reverse, slice_get, slice_index_or, take, Some, Bool, true, false}
use Rattle.std.proofs.Common.{sym, subst, inl, inr, arith}
use Rattle.topo_report.proofs.Members.{In}
use Rattle.epoch_game.proofs.Basics.{none_some, some_same}
use Rattle.switch_game.proofs.Streams.{reverse-cons}

-- each of a list
abbrev pub Each : {A : Type 0} → (A → Type 0) → List A → Type 0
Each P [] = Unit {0}
Each P (x ∷ xs) = P x × Each P xs

pub each_append : {A : Type 0} (P : A → Type 0) (xs ys : List A) → Each P xs → Each P ys → Each P (xs ++ ys)
each_append P [] ys a b = b
each_append P (x ∷ xs) ys a b = (a.0, each_append P xs ys a.1 b)

pub each_take : {A : Type 0} (P : A → Type 0) (n : ℕ) (xs : List A) → Each P xs → Each P (take n xs)
each_take P zero xs a = tt
each_take P (suc n) [] a = tt
each_take P (suc n) (x ∷ xs) a = (a.0, each_take P n xs a.1)

pub each_drop : {A : Type 0} (P : A → Type 0) (n : ℕ) (xs : List A) → Each P xs → Each P (drop n xs)
each_drop P zero xs a = a
each_drop P (suc n) [] a = tt
each_drop P (suc n) (x ∷ xs) a = each_drop P n xs a.1

pub each_index : {A : Type 0} (P : A → Type 0) (xs : List A) (i : ℕ) (d : A) → P d → Each P xs → P (slice_index_or xs i d)
each_index P [] i d pd a = pd
each_index P (x ∷ xs) zero d pd a = a.0
each_index P (x ∷ xs) (suc i) d pd a = each_index P xs i d pd a.1

pub each_map : {A : Type 0} (P Q : A → Type 0) (xs : List A) → ((x : A) → P x → Q x) → Each P xs → Each Q xs
each_map P Q [] f a = tt
each_map P Q (x ∷ xs) f a = (f x a.0, each_map P Q xs f a.1)

pub each_in : {A : Type 0} (P : A → Type 0) (xs : List A) (x : A) → Each P xs → In x xs → P x
each_in P [] x all i = absurd i
each_in P (y ∷ ys) x all (inl is) = subst P (sym is) all.0
each_in P (y ∷ ys) x all (inr i) = each_in P ys x all.1 i

pub each_mapped : {A B : Type 0} (P : A → Type 0) (Q : B → Type 0) (f : A → B) (xs : List A) → ((x : A) → P x → Q (f x)) → Each P xs → Each Q (map f xs)
each_mapped P Q f [] to all = tt
each_mapped P Q f (x ∷ xs) to all = (to x all.0, each_mapped P Q f xs to all.1)

pub each_filtered : {A : Type 0} (P : A → Type 0) (test : A → Bool) (xs : List A) → Each P xs → Each P (filter test xs)
each_filtered P test [] all = tt
each_filtered P test (x ∷ xs) all = by (test x) (each_filtered P test xs all.1) where
  by : (b : Bool) → Each P (filter test xs) → Each P (cond b (x ∷ filter test xs) (filter test xs))
  by true rest = (all.0, rest)
  by false rest = rest

pub each_all : {A : Type 0} (P : A → Type 0) (xs : List A) → ((x : A) → P x) → Each P xs
each_all P [] all = tt
each_all P (x ∷ xs) all = (all x, each_all P xs all)

pub each_reverse : {A : Type 0} (P : A → Type 0) (xs : List A) → Each P xs → Each P (reverse xs)
each_reverse P [] all = all
each_reverse P (x ∷ xs) all = subst (Each P) (sym (reverse-cons x xs)) (each_append P (reverse xs) (x ∷ []) (each_reverse P xs all.1) (all.0, tt))

pub each_get : {A : Type 0} (P : A → Type 0) (xs : List A) (k : ℕ) (x : A) → Each P xs → slice_get xs k ≡ Some x → P x
each_get P [] k x all is = absurd (none_some is)
each_get P (y ∷ xs) zero x all is = subst P (some_same y x is) all.0
each_get P (y ∷ xs) (suc k) x all is = each_get P xs k x all.1 is

pub each_from : {A : Type 0} (P : A → Type 0) (xs : List A) → All P xs → Each P xs
each_from P [] all = tt
each_from P (x ∷ xs) all = (all 0 x (omega arith), each_from P xs (λ k d low. all (suc k) d (omega arith)))

pub all_from : {A : Type 0} (P : A → Type 0) (xs : List A) → Each P xs → All P xs
all_from P [] all k d low = absurd (omega (arith, low))
all_from P (x ∷ xs) all zero d low = all.0
all_from P (x ∷ xs) all (suc k) d low = all_from P xs all.1 k d (omega (arith, low))
