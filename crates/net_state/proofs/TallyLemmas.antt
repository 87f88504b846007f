-- How many stations of a kind there are, as one of them changes.

use Rattle.std.specs.Prelude.{◌≡◌, ◌||◌, ◌+◌, ◌<◌, ◌≤◌, ℕ, suc, nat_lt, not, List, [], ◌∷◌, ◌++◌, All, cond, count_by, length, map, slice_index_or, slice_set, Bool, true, false, refl}
use Rattle.std.specs.List.{list_any, range_with_len}
use Rattle.std.proofs.Common.{sym, ◌∙◌, ap, subst, arith}
use Rattle.std.proofs.lemmas.Bool.{lt-ltb, le-leb}
use Rattle.std.proofs.lemmas.List.Elements.{All-head, All-tail}
use Rattle.std.proofs.lemmas.List.FromFn.{length-range_with_len, length-map-range_with_len, get_or-map-range_with_len, map-range_with_len_more}
use Rattle.std.proofs.lemmas.List.Sums.{sum_by-set, sum_by-cons}
use Rattle.net_graph.specs.Wires.{Wires}
use Rattle.net_state.specs.declared.stations.Tally.{Tally}
use Rattle.net_state.specs.declared.stations.TheConstants.{MOST_TICK}
use Rattle.net_state.specs.Fabric.{StationOf, is_due_at, is_empty, vacant}
use Rattle.net_state.specs.Starts.{begun_station}
use Rattle.net_state.specs.Tallies.{IsTally, one_if}

-- one station changes
pub count_set : (p : StationOf → Bool) (xs : List StationOf) (s : ℕ) (x : StationOf) → s < length xs → count_by p (slice_set xs s x) + one_if (p (slice_index_or xs s vacant)) ≡ count_by p xs + one_if (p x)
count_set p xs s x below = sum_by-set (λ (y : StationOf). cond (p y) 1 0) xs s x vacant below

-- there are some where the count is not 0
pub some_counted : (p : StationOf → Bool) (xs : List StationOf) → nat_lt 0 (count_by p xs) ≡ list_any p xs
some_counted p [] = refl
some_counted p (x ∷ xs) = by (p x) refl (some_counted p xs) where
  sum : count_by p (x ∷ xs) ≡ one_if (p x) + count_by p xs
  sum = sum_by-cons (λ (y : StationOf). cond (p y) 1 0) x xs

  by : (b : Bool) → p x ≡ b → nat_lt 0 (count_by p xs) ≡ list_any p xs → nat_lt 0 (count_by p (x ∷ xs)) ≡ list_any p (x ∷ xs)
  by true is rest =
      let one : one_if (p x) ≡ 1 = ap one_if is in
      lt-ltb 0 (count_by p (x ∷ xs)) (omega (arith, sum, one)) ∙ sym (ap (λ b. b || list_any p xs) is)
  by false is rest =
      let none : one_if (p x) ≡ 0 = ap one_if is in
      let same : count_by p (x ∷ xs) ≡ count_by p xs = omega (arith, sum, none) in
      ap (nat_lt 0) same ∙ rest ∙ sym (ap (λ b. b || list_any p xs) is)

-- all of them
pub all_counted : (p : StationOf → Bool) (xs : List StationOf) → All (λ x. p x ≡ true) xs → count_by p xs ≡ length xs
all_counted p [] all = refl
all_counted p (x ∷ xs) all =
    let one : one_if (p x) ≡ 1 = ap one_if (All-head (λ y. p y ≡ true) x xs all) in
    let sum : count_by p (x ∷ xs) ≡ one_if (p x) + count_by p xs = sum_by-cons (λ (y : StationOf). cond (p y) 1 0) x xs in
    let rest = all_counted p xs (All-tail (λ y. p y ≡ true) x xs all) in
    omega (arith, one, sum, rest)

-- after a tick each clock is due
pub due_then : (tick : ℕ) (xs : List StationOf) → All (λ (x : StationOf). x.clock ≤ tick + 1) xs → count_by (is_due_at (tick + 1)) xs ≡ length xs
due_then tick xs next = all_counted (is_due_at (tick + 1)) xs (λ k d low. le-leb (slice_index_or xs k d).clock (tick + 1) (next k d low))

-- after a tick each clock counts, and the rest stays as it is
pub ticked : (tick : ℕ) (xs : List StationOf) (tally : Tally) (n : ℕ) → n ≡ length xs → tick < MOST_TICK → IsTally tick xs tally → IsTally (tick + 1) xs (record tally { clocks = n })
ticked tick xs tally n size room was = record {
  full = was.full;
  clocks = size ∙ sym (due_then tick xs was.next);
  loads = was.loads;
  unacked = was.unacked;
  spent = was.spent;
  few = was.few;
  tick_most = omega (arith, room);
  next = λ k d low. let low = was.next k d low in omega (arith, low);
}

-- At first all stations pass a test, or none does
one_more : (b : Bool) (n : ℕ) → one_if b + cond b n 0 ≡ cond b (suc n) 0
one_more true n = omega arith
one_more false n = refl

begun_count : (p : StationOf → Bool) (wires : Wires) (epoch : ℕ) (b : Bool) → ((place : ℕ) → p (begun_station wires epoch place) ≡ b) → (xs : List ℕ) → count_by p (map (begun_station wires epoch) xs) ≡ cond b (length xs) 0
begun_count p wires epoch true is [] = refl
begun_count p wires epoch false is [] = refl
begun_count p wires epoch b is (x ∷ xs) =
    let here : one_if (p (begun_station wires epoch x)) ≡ one_if b = ap one_if (is x) in
    let sum : count_by p (map (begun_station wires epoch) (x ∷ xs)) ≡ one_if (p (begun_station wires epoch x)) + count_by p (map (begun_station wires epoch) xs) = sum_by-cons (λ (y : StationOf). cond (p y) 1 0) (begun_station wires epoch x) (map (begun_station wires epoch) xs) in
    let rest = begun_count p wires epoch b is xs in
    let more = one_more b (length xs) in
    omega (arith, here, sum, rest, more)

pub begun_none : (p : StationOf → Bool) (wires : Wires) (epoch : ℕ) → ((place : ℕ) → p (begun_station wires epoch place) ≡ false) → (xs : List ℕ) → count_by p (map (begun_station wires epoch) xs) ≡ 0
begun_none p wires epoch none xs = begun_count p wires epoch false none xs

pub begun_all : (p : StationOf → Bool) (wires : Wires) (epoch : ℕ) → ((place : ℕ) → p (begun_station wires epoch place) ≡ true) → (xs : List ℕ) → count_by p (map (begun_station wires epoch) xs) ≡ length xs
begun_all p wires epoch all xs = begun_count p wires epoch true all xs

-- one station more
pub begun_more : (wires : Wires) (epoch s : ℕ) (x : StationOf) (old new : List StationOf) → old ≡ map (begun_station wires epoch) (range_with_len 0 s) → x ≡ begun_station wires epoch s → new ≡ old ++ x ∷ [] → new ≡ map (begun_station wires epoch) (range_with_len 0 (s + 1))
begun_more wires epoch s x old new was is pushed = let more = map-range_with_len_more (begun_station wires epoch) 0 s s (omega arith) in cc

-- the tally at first
pub begun_tally : (wires : Wires) (epoch n : ℕ) (xs : List StationOf) (clocks : ℕ) → xs ≡ map (begun_station wires epoch) (range_with_len 0 n) → clocks ≡ n → n ≤ 126 → IsTally 0 xs (record { full = 0; clocks = clocks; loads = 0; unacked = 0; spent = 0 })
begun_tally wires epoch n xs clocks are size few =
    let all = length-map-range_with_len (begun_station wires epoch) 0 n in
    let count : length xs ≡ n = ap (length {A = StationOf}) are ∙ all in
    let none = λ (p : StationOf → Bool) (no : (place : ℕ) → p (begun_station wires epoch place) ≡ false). sym (ap (count_by p) are ∙ begun_none p wires epoch no (range_with_len 0 n)) in
    record {
      full = none (λ at. not (is_empty at.hand)) (λ _. refl);
      clocks = size ∙ sym (ap (count_by (is_due_at 0)) are ∙ begun_all (is_due_at 0) wires epoch (λ _. refl) (range_with_len 0 n) ∙ length-range_with_len 0 n);
      loads = none (λ at. at.note.load_due) (λ _. refl);
      unacked = none (λ at. at.note.unacked) (λ _. refl);
      spent = none (λ at. at.spent) (λ _. refl);
      few = omega (arith, count, few);
      tick_most = omega arith;
      next = λ k d low.
          let here = ap (λ (ys : List StationOf). slice_index_or ys k d) are ∙ get_or-map-range_with_len (begun_station wires epoch) 0 n k k d (omega (arith, low, count)) (omega arith) in
          subst (λ (x : StationOf). x.clock ≤ 0 + 1) (sym here) (omega arith);
    }
