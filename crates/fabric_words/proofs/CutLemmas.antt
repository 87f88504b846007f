use Rattle.std.proofs.Common.{◌≡◌, ◌∙◌, sym, ap, subst, refl, ℕ, zero, suc, ◌+◌, ◌-◌, ◌<◌, ◌≤◌, List, arith, length, length-drop, take, drop, get_or, Option, Some, None, Bool, true, false, eqb, ◌⊎◌, inl, inr}
use Rattle.std.specs.Prelude.{MatchOption, find}
use Rattle.std.specs.List.{position, range_with_len}
use Rattle.std.specs.Str.{bytes_eq}
use Rattle.std.proofs.lemmas.List.{get_or-drop, take_rest}
use Rattle.std.proofs.lemmas.Bool.{cases_eq, false_from_ne_true}
use denote.Ref.{Bor}
use Rattle.memchr.specs.Find.{OccursAt, occurs_at, FindsNeedle, FindsLastNeedle, Nowhere}
use Rattle.memchr.proofs.lemmas.MatchLemmas.{occurs_at-true, OccursAt-true}
use Rattle.fabric_words.specs.Cuts.{after, cut, greatest_below, first_place, last_place, cut_first, cut_last}

-- what stands after a front
pub after_is : (front text : List ℕ) (r : Option (Bor (List ℕ))) → MatchOption r (bytes_eq (take (length front) text) front ≡ false) (λ x. (bytes_eq (take (length front) text) front ≡ true) × (x.now ≡ drop (length front) text) × (length x.now + length front ≡ length text)) → MatchOption r (after front text ≡ None) (λ rest. after front text ≡ Some rest.now)
unfolding after
after_is front text None h = rw h refl
after_is front text (Some x) h = rw h.0 (ap (λ (l : List ℕ). Some l) (sym h.1))

-- around a byte
pub cut_none : (byte : ℕ) (text : List ℕ) → None ≡ position (λ other. eqb other byte) text → cut byte text ≡ None
unfolding cut
cut_none byte text e = rw (← e) refl

pub cut_some : (byte : ℕ) (text : List ℕ) (place : ℕ) → Some place ≡ position (λ other. eqb other byte) text → cut byte text ≡ Some (take place text, take (length text - (place + 1)) (drop (place + 1) text))
unfolding cut
cut_some byte text place e = rw (← e, take_rest text (place + 1)) refl

-- the first number of a range that passes a test
find_none : (test : ℕ → Bool) (a n : ℕ) → ((k : ℕ) → a ≤ k → k < a + n → test k ≡ false) → find test (range_with_len a n) ≡ None
find_none test a zero misses = refl
find_none test a (suc n) misses = rw (misses a (omega arith) (omega arith)) (find_none test (a + 1) n (λ k low high. misses k (omega arith) (omega arith)))

first_or : (a k : ℕ) → a ≤ k → (a ≡ k) ⊎ (a + 1 ≤ k)
first_or a k low = grind arith

find_some : (test : ℕ → Bool) (a n k : ℕ) → a ≤ k → k < a + n → ((j : ℕ) → a ≤ j → j < k → test j ≡ false) → test k ≡ true → find test (range_with_len a n) ≡ Some k
find_some test a zero k low high misses passes = absurd (omega arith)
find_some test a (suc n) k low high misses passes = elim (first_or a k low) [
  | inl same ↦ (let here : test a ≡ true = rw same passes in rw here (ap (λ (x : ℕ). Some x) same))
  | inr later ↦ rw (misses a (omega arith) (omega arith)) (find_some test (a + 1) n k later (omega arith) (λ j from to. misses j (omega arith) to) passes)
]

-- the greatest number below a bound that passes a test
greatest_none : (test : ℕ → Bool) (n : ℕ) → ((k : ℕ) → k < n → test k ≡ false) → greatest_below test n ≡ None
greatest_none test zero misses = refl
greatest_none test (suc n) misses = rw (misses n (omega arith)) (greatest_none test n (λ k high. misses k (omega arith)))

last_or : (k n : ℕ) → k < suc n → (k ≡ n) ⊎ (k < n)
last_or k n high = grind arith

greatest_some : (test : ℕ → Bool) (n k : ℕ) → k < n → ((j : ℕ) → k < j → j < n → test j ≡ false) → test k ≡ true → greatest_below test n ≡ Some k
greatest_some test zero k high misses passes = absurd (omega arith)
greatest_some test (suc n) k high misses passes = elim (last_or k n high) [
  | inl same ↦ (let here : test n ≡ true = rw (← same) passes in rw here (ap (λ (x : ℕ). Some x) (sym same)))
  | inr below ↦ rw (misses n below (omega arith)) (greatest_some test n k below (λ j from to. misses j from (omega arith)) passes)
]

-- what a search for bytes finds is the first of their places, or the last
miss : (text bytes : List ℕ) (k : ℕ) → ¬ OccursAt text bytes k → occurs_at text bytes k ≡ false
miss text bytes k misses = false_from_ne_true (occurs_at text bytes k) (λ passes. misses (OccursAt-true text bytes k passes))

pub first_place_is : (text bytes : List ℕ) (r : Option ℕ) → FindsNeedle text bytes 0 r → first_place bytes text ≡ r
first_place_is text bytes None none = find_none (occurs_at text bytes) 0 (length text + 1) (λ k low high. miss text bytes k (none k low (omega arith)))
first_place_is text bytes (Some k) (first, here) = find_some (occurs_at text bytes) 0 (length text + 1) k (omega arith) (let high = first.high in omega arith) (λ j low high. miss text bytes j (first.before j low high)) (occurs_at-true text bytes k here)

pub last_place_is : (text bytes : List ℕ) (r : Option ℕ) → FindsLastNeedle text bytes r → last_place bytes text ≡ r
last_place_is text bytes None none = greatest_none (occurs_at text bytes) (length text + 1) (λ k high. miss text bytes k (none k (omega arith) high))
last_place_is text bytes (Some k) (last, here) = greatest_some (occurs_at text bytes) (length text + 1) k last.high (λ j low high. miss text bytes j (last.after j (omega arith) high)) (occurs_at-true text bytes k here)

-- the bytes stand at a place if what begins there begins with them
pub from_there : (text bytes : List ℕ) (place : ℕ) → place ≤ length text → OccursAt (take (length text - place) (drop place text)) bytes 0 → OccursAt text bytes place
from_there text bytes place low is =
    let there : OccursAt (drop place text) bytes 0 = subst (λ (l : List ℕ). OccursAt l bytes 0) (take_rest text place) is in
    let size = length-drop place text in
    let fits = there.fits in
    record {
      fits = omega arith;
      reads = λ j within. ap (λ (k : ℕ). get_or text k 0) (let e : place + j ≡ place + (0 + j) = omega arith in e) ∙ sym (get_or-drop place text (0 + j) 0) ∙ there.reads j within;
    }

pub to_there : (text bytes : List ℕ) (place : ℕ) → OccursAt text bytes place → OccursAt (take (length text - place) (drop place text)) bytes 0
to_there text bytes place is =
    let size = length-drop place text in
    let fits = is.fits in
    let there : OccursAt (drop place text) bytes 0 = record {
      fits = omega arith;
      reads = λ j within. get_or-drop place text (0 + j) 0 ∙ ap (λ (k : ℕ). get_or text k 0) (let e : place + (0 + j) ≡ place + j = omega arith in e) ∙ is.reads j within;
    } in
    subst (λ (l : List ℕ). OccursAt l bytes 0) (sym (take_rest text place)) there

-- nowhere from one place less on
pub nowhere_more : (text bytes : List ℕ) (end : ℕ) → 0 < end → ¬ OccursAt text bytes (end - 1) → Nowhere (OccursAt text bytes) end (length text + 1) → Nowhere (OccursAt text bytes) (end - 1) (length text + 1)
nowhere_more text bytes end some not past k low high is = elim (cases_eq k (end - 1)) [
  | inl same ↦ not (subst (OccursAt text bytes) same is)
  | inr differs ↦ past k (omega arith) high is
]

-- around bytes
pub cut_first_none : (bytes text : List ℕ) → first_place bytes text ≡ None → cut_first bytes text ≡ None
unfolding cut_first
cut_first_none bytes text e = rw e refl

pub cut_first_some : (bytes text : List ℕ) (place : ℕ) → first_place bytes text ≡ Some place → cut_first bytes text ≡ Some (take place text, take (length text - (place + length bytes)) (drop (place + length bytes) text))
unfolding cut_first
cut_first_some bytes text place e = rw (e, take_rest text (place + length bytes)) refl

pub cut_last_none : (bytes text : List ℕ) → last_place bytes text ≡ None → cut_last bytes text ≡ None
unfolding cut_last
cut_last_none bytes text e = rw e refl

pub cut_last_some : (bytes text : List ℕ) (place : ℕ) → last_place bytes text ≡ Some place → cut_last bytes text ≡ Some (take place text, take (length text - (place + length bytes)) (drop (place + length bytes) text))
unfolding cut_last
cut_last_some bytes text place e = rw (e, take_rest text (place + length bytes)) refl
