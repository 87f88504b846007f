-- What is kept is the last arrival of each of the senders that were heard last.
use Rattle.std.proofs.Common.{◌≡◌, ◌≢◌, ◌∙◌, sym, ap, subst, refl, ℕ, zero, suc, ◌<◌, List, [], ◌∷◌, true, false, arith, length, get_or, take, inl, inr, ◌==◌}
use Rattle.std.specs.Prelude.{◌⊎◌, AllPairs, Contains, Some, find, not}
use Rattle.std.proofs.lemmas.Bool.{cases_Bool, cases_eq, cases_lt}
use Rattle.std.proofs.lemmas.Bool.Decides.{nat_tests}
use Rattle.std.proofs.lemmas.List.{get_or-take, length-take, length-take-le, take_all}
use Rattle.host_names.specs.Caches.{ArrivalOf, is_from, others, last_of_each, kept_of, with_arrival, after_arrivals}

-- the test for another sender
other_test : (a b : ℕ) → a ≢ b → not (a == b) ≡ true
other_test a b other = grind (arith, nat_tests)

same_test : (a b : ℕ) → a ≡ b → not (a == b) ≡ false
same_test a b same = grind (arith, nat_tests)

-- no arrival is of this sender
abbrev pub Lacks : ℕ → List ArrivalOf → Type 0
Lacks uid [] = Unit {0}
Lacks uid (arrival ∷ arrivals) = (arrival.uid ≢ uid) × Lacks uid arrivals

-- each sender once
abbrev pub AreApart : List ArrivalOf → Type 0
AreApart [] = Unit {0}
AreApart (arrival ∷ arrivals) = Lacks arrival.uid arrivals × AreApart arrivals

lacks_others : (uid gone : ℕ) (arrivals : List ArrivalOf) → Lacks uid arrivals → Lacks uid (others gone arrivals)
lacks_others uid gone [] lacks = tt
lacks_others uid gone (arrival ∷ arrivals) (here, rest) = elim (cases_eq arrival.uid gone) [
  | inl same ↦ (let test = same_test arrival.uid gone same in rw test (lacks_others uid gone arrivals rest))
  | inr other ↦ (let test = other_test arrival.uid gone other in rw test (here, lacks_others uid gone arrivals rest))
]

others_lack : (uid : ℕ) (arrivals : List ArrivalOf) → Lacks uid (others uid arrivals)
others_lack uid [] = tt
others_lack uid (arrival ∷ arrivals) = elim (cases_eq arrival.uid uid) [
  | inl same ↦ (let test = same_test arrival.uid uid same in rw test (others_lack uid arrivals))
  | inr other ↦ (let test = other_test arrival.uid uid other in rw test (other, others_lack uid arrivals))
]

apart_others : (uid : ℕ) (arrivals : List ArrivalOf) → AreApart arrivals → AreApart (others uid arrivals)
apart_others uid [] apart = tt
apart_others uid (arrival ∷ arrivals) (here, rest) = elim (cases_eq arrival.uid uid) [
  | inl same ↦ (let test = same_test arrival.uid uid same in rw test (apart_others uid arrivals rest))
  | inr other ↦ (let test = other_test arrival.uid uid other in rw test (lacks_others arrival.uid uid arrivals here, apart_others uid arrivals rest))
]

last_apart : (arrivals : List ArrivalOf) → AreApart (last_of_each arrivals)
last_apart [] = tt
last_apart (arrival ∷ arrivals) = (others_lack arrival.uid (last_of_each arrivals), apart_others arrival.uid (last_of_each arrivals) (last_apart arrivals))

-- where there is none of a sender, all are others
all_others : (uid : ℕ) (arrivals : List ArrivalOf) → Lacks uid arrivals → others uid arrivals ≡ arrivals
all_others uid [] lacks = refl
all_others uid (arrival ∷ arrivals) (here, rest) =
    let test = other_test arrival.uid uid here in
    rw test (ap (λ (xs : List ArrivalOf). arrival ∷ xs) (all_others uid arrivals rest))

lacks_take : (uid n : ℕ) (arrivals : List ArrivalOf) → Lacks uid arrivals → Lacks uid (take n arrivals)
lacks_take uid zero arrivals lacks = tt
lacks_take uid (suc n) [] lacks = tt
lacks_take uid (suc n) (arrival ∷ arrivals) (here, rest) = (here, lacks_take uid n arrivals rest)

twice : (m : ℕ) (xs : List ArrivalOf) → take m (take m xs) ≡ take m xs
twice zero xs = refl
twice (suc m) [] = refl
twice (suc m) (x ∷ xs) = ap (λ (ys : List ArrivalOf). x ∷ ys) (twice m xs)

step_on : (arrival : ArrivalOf) (uid : ℕ) (arrivals : List ArrivalOf) → ((m : ℕ) → take m (others uid (take (suc m) arrivals)) ≡ take m (others uid arrivals)) → (m : ℕ) → take m (arrival ∷ others uid (take m arrivals)) ≡ take m (arrival ∷ others uid arrivals)
step_on arrival uid arrivals more zero = refl
step_on arrival uid arrivals more (suc m) = ap (λ (ys : List ArrivalOf). arrival ∷ ys) (more m)

-- of the first n of others the first n + 1 of all say enough, since a sender is there once
first_others : (uid n : ℕ) (arrivals : List ArrivalOf) → AreApart arrivals → take n (others uid (take (suc n) arrivals)) ≡ take n (others uid arrivals)
first_others uid n [] apart = refl
first_others uid n (arrival ∷ arrivals) (here, rest) = elim (cases_eq arrival.uid uid) [
  | inl same ↦ (
      let test = same_test arrival.uid uid same in
      let lacks : Lacks uid arrivals = subst (λ (u : ℕ). Lacks u arrivals) same here in
      rw (test, all_others uid arrivals lacks, all_others uid (take n arrivals) (lacks_take uid n arrivals lacks)) (twice n arrivals))
  | inr other ↦ (let test = other_test arrival.uid uid other in rw test (step_on arrival uid arrivals (λ m. first_others uid m arrivals rest) n))
]

pub one_more : (arrival : ArrivalOf) (arrivals : List ArrivalOf) → kept_of (arrival ∷ arrivals) ≡ with_arrival arrival (kept_of arrivals)
one_more arrival arrivals = ap (λ (ys : List ArrivalOf). arrival ∷ ys) (sym (first_others arrival.uid 15 (last_of_each arrivals) (last_apart arrivals)))

-- the same by places
lacks_at : (uid k : ℕ) (d : ArrivalOf) (arrivals : List ArrivalOf) → Lacks uid arrivals → k < length arrivals → (get_or arrivals k d).uid ≢ uid
lacks_at uid k d [] lacks low = absurd (omega arith)
lacks_at uid zero d (arrival ∷ arrivals) (here, rest) low = here
lacks_at uid (suc k) d (arrival ∷ arrivals) (here, rest) low = lacks_at uid k d arrivals rest (omega arith)

apart_at : (arrivals : List ArrivalOf) → AreApart arrivals → (i j : ℕ) (d : ArrivalOf) → i < j → j < length arrivals → (get_or arrivals i d).uid ≢ (get_or arrivals j d).uid
apart_at [] apart i j d less low = absurd (omega arith)
apart_at (arrival ∷ arrivals) (here, rest) zero zero d less low = absurd (omega arith)
apart_at (arrival ∷ arrivals) (here, rest) zero (suc j) d less low = λ same. lacks_at arrival.uid j d arrivals here (omega arith) (sym same)
apart_at (arrival ∷ arrivals) (here, rest) (suc i) zero d less low = absurd (omega arith)
apart_at (arrival ∷ arrivals) (here, rest) (suc i) (suc j) d less low = apart_at arrivals rest i j d (omega arith) (omega arith)

apart_take : (n : ℕ) (arrivals : List ArrivalOf) → AreApart arrivals → AreApart (take n arrivals)
apart_take zero arrivals apart = tt
apart_take (suc n) [] apart = tt
apart_take (suc n) (arrival ∷ arrivals) (here, rest) = (lacks_take arrival.uid n arrivals here, apart_take n arrivals rest)

pub kept_apart : (arrivals : List ArrivalOf) → AllPairs (λ a b. a.uid ≢ b.uid) (kept_of arrivals)
kept_apart arrivals = λ i j d less low. apart_at (kept_of arrivals) (apart_take 16 (last_of_each arrivals) (last_apart arrivals)) i j d less low

-- so after whatever arrives
pub after_is_kept : (arrivals : List ArrivalOf) → after_arrivals arrivals ≡ kept_of arrivals
after_is_kept [] = refl
after_is_kept (arrival ∷ arrivals) = ap (with_arrival arrival) (after_is_kept arrivals) ∙ sym (one_more arrival arrivals)

-- where one sender is left out, what another one sent is found as before
find_others : (uid gone : ℕ) (arrivals : List ArrivalOf) → uid ≢ gone → find (is_from uid) (others gone arrivals) ≡ find (is_from uid) arrivals
find_others uid gone [] other = refl
find_others uid gone (arrival ∷ arrivals) other = elim (cases_eq arrival.uid gone) [
  | inl same ↦ (
      let test = same_test arrival.uid gone same in
      let passed : (arrival.uid == uid) ≡ false = grind (arith, nat_tests) in
      rw (test, passed) (find_others uid gone arrivals other))
  | inr kept ↦ (
      let test = other_test arrival.uid gone kept in
      rw test (elim (cases_Bool (arrival.uid == uid)) [
        | inl found ↦ rw found refl
        | inr passed ↦ rw passed (find_others uid gone arrivals other)
      ]))
]

-- the last of each sender is the one that a look-up finds among all
find_last : (uid : ℕ) (arrivals : List ArrivalOf) → find (is_from uid) (last_of_each arrivals) ≡ find (is_from uid) arrivals
find_last uid [] = refl
find_last uid (arrival ∷ arrivals) = elim (cases_eq arrival.uid uid) [
  | inl same ↦ (
      let found : (arrival.uid == uid) ≡ true = grind (arith, nat_tests) in
      rw found refl)
  | inr other ↦ (
      let passed : (arrival.uid == uid) ≡ false = grind (arith, nat_tests) in
      rw passed (find_others uid arrival.uid (last_of_each arrivals) (λ e. other (sym e)) ∙ find_last uid arrivals))
]

-- where each sender is there once, a look-up finds what is there of it
find_apart : (arrivals : List ArrivalOf) (k : ℕ) (arrival : ArrivalOf) → AreApart arrivals → k < length arrivals → get_or arrivals k arrival ≡ arrival → find (is_from arrival.uid) arrivals ≡ Some arrival
find_apart [] k arrival apart low at = absurd (omega arith)
find_apart (first ∷ arrivals) zero arrival apart low at =
    let same : first.uid ≡ arrival.uid = ap (λ (a : ArrivalOf). a.uid) at in
    let found : (first.uid == arrival.uid) ≡ true = grind (arith, nat_tests) in
    rw found (ap (λ (a : ArrivalOf). Some a) at)
find_apart (first ∷ arrivals) (suc k) arrival (here, rest) low at =
    let other : first.uid ≢ arrival.uid = λ same. lacks_at first.uid k arrival arrivals here (omega arith) (ap (λ (a : ArrivalOf). a.uid) at ∙ sym same) in
    let passed : (first.uid == arrival.uid) ≡ false = grind (arith, nat_tests) in
    rw passed (find_apart arrivals k arrival rest (omega arith) at)

-- what is kept is the last of its sender
pub kept_is_last : (arrivals : List ArrivalOf) (arrival : ArrivalOf) → Contains (kept_of arrivals) arrival → find (is_from arrival.uid) arrivals ≡ Some arrival
kept_is_last arrivals arrival (k, low, at) =
    let few : k < 16 = omega (arith, length-take {A = ArrivalOf}) in
    let within : k < length (last_of_each arrivals) = omega (arith, length-take {A = ArrivalOf}) in
    let there : get_or (last_of_each arrivals) k arrival ≡ arrival = sym (get_or-take 16 (last_of_each arrivals) k arrival few) ∙ at in
    sym (find_last arrival.uid arrivals) ∙ find_apart (last_of_each arrivals) k arrival (last_apart arrivals) within there

-- and a sender is left out only where 16 are kept
pub kept_or_full : (arrivals : List ArrivalOf) (uid : ℕ) → (find (is_from uid) (kept_of arrivals) ≡ find (is_from uid) arrivals) ⊎ (length (kept_of arrivals) ≡ 16)
kept_or_full arrivals uid = elim (cases_lt 16 (length (last_of_each arrivals))) [
  | inl more ↦ inr (length-take-le 16 (last_of_each arrivals) (omega arith))
  | inr few ↦ inl (ap (find (is_from uid)) (take_all 16 (last_of_each arrivals) few) ∙ find_last uid arrivals)
]
