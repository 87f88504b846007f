-- How many hands are full, as one of them changes, and the room for events.

use Rattle.std.specs.Prelude.{◌≡◌, ◌+◌, ◌<◌, ◌≤◌, ℕ, not, List, length, cond, slice_set, slice_index_or, true}
use Rattle.std.specs.List.{sum_by}
use Rattle.std.proofs.Common.{ap, arith}
use Rattle.std.proofs.lemmas.List.Sums.{sum_by-set}
use Rattle.net_state.specs.declared.hand.Hand.{Hand}
use Rattle.net_state.specs.declared.hand.Hand.TheVariants as hand
use Rattle.net_state.specs.Fabric.{StationOf, vacant, is_empty}

-- how full hands change
abbrev pub fullness : Hand → ℕ
fullness h = cond (not (is_empty h)) 1 0

pub full_set : (xs : List StationOf) (s : ℕ) (x : StationOf) → s < length xs
    → sum_by (λ (y : StationOf). fullness y.hand) (slice_set xs s x) + fullness (slice_index_or xs s vacant).hand ≡ sum_by (λ (y : StationOf). fullness y.hand) xs + fullness x.hand
full_set xs s x below = sum_by-set (λ (y : StationOf). fullness y.hand) xs s x vacant below

pub full_is : (h : Hand) → not (is_empty h) ≡ true → fullness h ≡ 1
full_is h full = ap (λ b. cond b 1 0) full

pub fullness_most : (h : Hand) → fullness h ≤ 1
fullness_most hand.Empty = omega arith
fullness_most (hand.Clock now samples) = omega arith
fullness_most (hand.Frame port) = omega arith

pub room_one : (limit events t : ℕ) (xs : List StationOf) (x : StationOf) → t < length xs → events + sum_by (λ (y : StationOf). fullness y.hand) xs + 2 ≤ limit
    → events + 1 + sum_by (λ (y : StationOf). fullness y.hand) (slice_set xs t x) ≤ limit
room_one limit events t xs x below free = let now = full_set xs t x below in let most = fullness_most x.hand in omega (arith, now, most, free)

pub room_handled : (limit events t : ℕ) (xs : List StationOf) (x : StationOf) → t < length xs → not (is_empty (slice_index_or xs t vacant).hand) ≡ true → x.hand ≡ hand.Empty → events + sum_by (λ (y : StationOf). fullness y.hand) xs ≤ limit
    → events + 1 + sum_by (λ (y : StationOf). fullness y.hand) (slice_set xs t x) ≤ limit
room_handled limit events t xs x below full empty room =
    let now = full_set xs t x below in
    let one = full_is (slice_index_or xs t vacant).hand full in
    let none : fullness x.hand ≡ 0 = ap fullness empty in
    omega (arith, now, one, none, room)

pub room_more : (limit events full : ℕ) → events + full + 2 ≤ limit → events + 1 + full ≤ limit
room_more limit events full free = omega (arith, free)
