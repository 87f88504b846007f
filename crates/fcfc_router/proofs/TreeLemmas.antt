-- Unions of sets of ports, and the nodes above a place.
use Rattle.std.proofs.Common.{◌≡◌, ◌≢◌, ◌∙◌, sym, ap, subst, refl, ℕ, zero, suc, ◌+◌, ◌-◌, ◌*◌, ◌/◌, ◌^◌, ◌<◌, ◌≤◌, List, ◌++◌, append_assoc, arith, length, get_or, set, drop, take, inl, inr}
use Rattle.std.specs.Prelude.{All, bit_and, replicate}
use Rattle.std.specs.List.{slice_range}
use Rattle.std.specs.Int.{bit_at, IsPowerOfTwo}
use Rattle.std.specs.Int.RustNames.{bit_or}
use Rattle.std.proofs.Math.Nat.{pow-suc, le-mul_of_pos_right, pow-le-pow_right}
use Rattle.std.proofs.lemmas.Bool.{cases_eq, cases_lt}
use Rattle.std.proofs.lemmas.List.{get_or-append_right, get_or_append_left, get_or-set_same, get_or-set_other, get_or-drop, get_or_read, length-append, length-replicate, length-set, length-drop, get_or_default, ext_get_or, replicate-append-replicate, set-append_left, set-get_or, take_all}
use Rattle.std.proofs.Math.Seq.{drop-append_seam, take-append_seam}
use Rattle.std.proofs.lemmas.List.Elements.{All-append, All-replicate}
use Rattle.std.proofs.lemmas.Nat.{pow_pos}
use Rattle.std.proofs.lemmas.Nat.Bits.{bit_at_and, bit_at_or, bit_at-zero, same_from_bits}
use Rattle.fcfc_router.specs.Tree.{all_sets, HasNone, IsAbove, IsFirst, IsGrown, IsHalf, IsTree, IsTreeBut, IsUnion}

pub no_bits : (n : ℕ) → ((i : ℕ) → bit_at n i ≡ 0) → n ≡ 0
no_bits n none = same_from_bits n 0 (λ i. none i ∙ sym (bit_at-zero i))

-- a union has none of the ports exactly where neither set has
pub neither_has : (a b ports : ℕ) → bit_and (bit_or a b) ports ≡ 0 → (bit_and a ports ≡ 0) × (bit_and b ports ≡ 0)
neither_has a b ports none = (no_bits (bit_and a ports) (λ i. (bits i).0), no_bits (bit_and b ports) (λ i. (bits i).1))
  where
    bits : (i : ℕ) → (bit_at (bit_and a ports) i ≡ 0) × (bit_at (bit_and b ports) i ≡ 0)
    bits i =
        let all : bit_at (bit_and (bit_or a b) ports) i ≡ 0 = ap (λ (n : ℕ). bit_at n i) none ∙ bit_at-zero i in
        let both = bit_at_and (bit_or a b) ports i in
        let either = bit_at_or a b i in
        let first = bit_at_and a ports i in
        let second = bit_at_and b ports i in
        (omega arith, omega arith)

pub both_have_none : (a b ports : ℕ) → bit_and a ports ≡ 0 → bit_and b ports ≡ 0 → bit_and (bit_or a b) ports ≡ 0
both_have_none a b ports first second = no_bits (bit_and (bit_or a b) ports) (λ i.
    let one : bit_at (bit_and a ports) i ≡ 0 = ap (λ (n : ℕ). bit_at n i) first ∙ bit_at-zero i in
    let two : bit_at (bit_and b ports) i ≡ 0 = ap (λ (n : ℕ). bit_at n i) second ∙ bit_at-zero i in
    let e = bit_at_and (bit_or a b) ports i in
    let f = bit_at_or a b i in
    let g = bit_at_and a ports i in
    let h = bit_at_and b ports i in
    omega arith)

-- one level down, to the left and to the right
doubled : (n w : ℕ) → n * (w * 2) ≡ (2 * n) * w
doubled n w = omega arith

next_doubled : (n w : ℕ) → (n + 1) * (w * 2) ≡ (2 * n + 1 + 1) * w
next_doubled n w = omega arith

pub above_left : (k node below : ℕ) → IsAbove (suc k) node below → below < (2 * node + 1) * 2 ^ k → IsAbove k (2 * node) below
above_left k node below above low =
    let e = ap (λ (w : ℕ). node * w) (pow-suc 2 k) ∙ doubled node (2 ^ k) in
    let f = above.first in
    record { first = omega arith; last = low }

pub above_right : (k node below : ℕ) → IsAbove (suc k) node below → (2 * node + 1) * 2 ^ k ≤ below → IsAbove k (2 * node + 1) below
above_right k node below above high =
    let e = ap (λ (w : ℕ). (node + 1) * w) (pow-suc 2 k) ∙ next_doubled node (2 ^ k) in
    let f = above.last in
    record { first = high; last = omega arith }

pub above_itself : (node below : ℕ) → IsAbove 0 node below → node ≡ below
above_itself node below above = let f = above.first in let l = above.last in omega arith

-- where a node has none of the ports, nothing below it has
pub none_below : (places ports : ℕ) (unions : List ℕ) → IsTree places unions → (levels node below : ℕ) → IsAbove levels node below → 1 ≤ node → below < 2 * places → bit_and (get_or unions node 0) ports ≡ 0 → bit_and (get_or unions below 0) ports ≡ 0
none_below places ports unions tree zero node below above low high none = subst (λ (n : ℕ). bit_and (get_or unions n 0) ports ≡ 0) (above_itself node below above) none
none_below places ports unions tree (suc k) node below above low high none =
    let e = ap (λ (w : ℕ). node * w) (pow-suc 2 k) ∙ doubled node (2 ^ k) in
    let f = above.first in
    let positive = pow_pos k in
    let more : 2 * node ≤ (2 * node) * 2 ^ k = at_least (2 * node) (2 ^ k) positive in
    let inner : node < places = omega arith in
    let both = subst (λ (n : ℕ). bit_and n ports ≡ 0) (tree.each node low inner) none in
    elim (cases_lt below ((2 * node + 1) * 2 ^ k)) [
      | inl left ↦ none_below places ports unions tree k (2 * node) below (above_left k node below above left) (omega arith) high (neither_has (get_or unions (2 * node) 0) (get_or unions (2 * node + 1) 0) ports both).0
      | inr right ↦ none_below places ports unions tree k (2 * node + 1) below (above_right k node below above right) (omega arith) high (neither_has (get_or unions (2 * node) 0) (get_or unions (2 * node + 1) 0) ports both).1
    ]
  where
    at_least : (n w : ℕ) → 1 ≤ w → n ≤ n * w
    at_least n w h = le-mul_of_pos_right n h

-- a write elsewhere keeps a union
kept_union : (unions : List ℕ) (at value node : ℕ) → node ≢ at → 2 * node ≢ at → 2 * node + 1 ≢ at → IsUnion unions node → IsUnion (set unions at value) node
kept_union unions at value node here first second union =
    let a = get_or-set_other unions at node value 0 here in
    let b = get_or-set_other unions at (2 * node) value 0 first in
    let c = get_or-set_other unions at (2 * node + 1) value 0 second in
    cc

-- a node is right after it is written
right_here : (at value node : ℕ) (unions : List ℕ) → at < length unions → 1 ≤ at → value ≡ bit_or (get_or unions (2 * at) 0) (get_or unions (2 * at + 1) 0) → node ≡ at → IsUnion (set unions at value) node
right_here at value node unions within low is same = subst (λ (n : ℕ). IsUnion (set unions at value) n) (sym same) (
    let a = get_or-set_same unions at value 0 within in
    let b = get_or-set_other unions at (2 * at) value 0 (omega arith) in
    let c = get_or-set_other unions at (2 * at + 1) value 0 (omega arith) in
    cc)

-- a node that is written may leave the one above it wrong, and no other
around : (at value node : ℕ) (unions : List ℕ) → node ≢ at → node ≢ at / 2 → IsUnion unions node → IsUnion (set unions at value) node
around at value node unions other above union = kept_union unions at value node other (λ e. above (omega arith)) (λ e. above (omega arith)) union

pub written : (places leaf value : ℕ) (unions : List ℕ) → IsTree places unions → places ≤ leaf → IsTreeBut places (set unions leaf value) (leaf / 2)
written places leaf value unions tree high = record {
  count = length-set unions leaf value ∙ tree.count;
  each = λ node low inner above. around leaf value node unions (omega arith) above (tree.each node low inner);
}

pub mended : (places at value : ℕ) (unions : List ℕ) → IsTreeBut places unions at → 1 ≤ at → at < places → value ≡ bit_or (get_or unions (2 * at) 0) (get_or unions (2 * at + 1) 0) → IsTreeBut places (set unions at value) (at / 2)
mended places at value unions tree low high is = record {
  count = length-set unions at value ∙ tree.count;
  each = λ node least inner above. elim (cases_eq node at) [
    | inl same ↦ right_here at value node unions within low is same
    | inr other ↦ around at value node unions other above (tree.each node least inner other)
  ];
}
  where
    within : at < length unions
    within = let e = tree.count in omega arith

pub all_mended : (places : ℕ) (unions : List ℕ) → IsTreeBut places unions 0 → IsTree places unions
all_mended places unions tree = record { count = tree.count; each = λ node low inner. tree.each node low inner (omega arith) }

-- where the node is right too, all are
pub right_already : (places at : ℕ) (unions : List ℕ) → IsTreeBut places unions at → IsUnion unions at → IsTree places unions
right_already places at unions tree union = record {
  count = tree.count;
  each = λ node low inner. elim (cases_eq node at) [
    | inl same ↦ subst (λ (n : ℕ). IsUnion unions n) (sym same) union
    | inr other ↦ tree.each node low inner other
  ];
}

-- a write of a node above the places keeps the sets of the places
pub same_place : (places at value place : ℕ) (unions : List ℕ) → at < places → get_or (set unions at value) (places + place) 0 ≡ get_or unions (places + place) 0
same_place places at value place unions low = get_or-set_other unions at (places + place) value 0 (omega arith)

-- there is a set for each place
pub count_is : (places : ℕ) (unions : List ℕ) → IsTree places unions → length (drop places unions) ≡ places
count_is places unions tree = let n = length-drop places unions in let c = tree.count in omega arith

-- the sets of the places after one is written
pub put_is : (places place value : ℕ) (old new : List ℕ) → IsTree places old → IsTree places new → place < places → ((k : ℕ) → get_or new (places + k) 0 ≡ get_or (set old (places + place) value) (places + k) 0) → drop places new ≡ set (drop places old) place value
put_is places place value old new before after within same = ext_get_or 0 (drop places new) (set (drop places old) place value) long each
  where
    count : length (drop places old) ≡ places
    count = count_is places old before

    long : length (drop places new) ≡ length (set (drop places old) place value)
    long = count_is places new after ∙ sym count ∙ sym (length-set (drop places old) place value)

    each : (i : ℕ) → i < length (drop places new) → get_or (drop places new) i 0 ≡ get_or (set (drop places old) place value) i 0
    each i low = get_or-drop places new i 0 ∙ same i ∙ elim (cases_eq i place) [
      | inl e ↦ subst (λ (j : ℕ). get_or (set old (places + place) value) (places + j) 0 ≡ get_or (set (drop places old) place value) j 0) (sym e) (
          get_or-set_same old (places + place) value 0 (let c = before.count in omega arith) ∙ sym (get_or-set_same (drop places old) place value 0 (let n = count in omega arith)))
      | inr other ↦ (get_or-set_other old (places + place) (places + i) value 0 (omega arith) ∙ sym (get_or-drop places old i 0) ∙ sym (get_or-set_other (drop places old) place i value 0 other))
    ]

-- the nodes from one on have the unions of those below them
pub record IsTreeFrom (places : ℕ) (unions : List ℕ) (start : ℕ) : Type 0 where
  pub count : length unions ≡ 2 * places
  pub each : (node : ℕ) → 1 ≤ node → start ≤ node → node < places → IsUnion unions node

pub none_united : (places : ℕ) (unions : List ℕ) → length unions ≡ 2 * places → IsTreeFrom places unions places
none_united places unions count = record { count = count; each = λ node low high less. absurd (omega arith) }

pub one_united : (places at value : ℕ) (unions : List ℕ) → IsTreeFrom places unions (at + 1) → 1 ≤ at → at < places → value ≡ bit_or (get_or unions (2 * at) 0) (get_or unions (2 * at + 1) 0) → IsTreeFrom places (set unions at value) at
one_united places at value unions tree low high is = record {
  count = length-set unions at value ∙ tree.count;
  each = λ node least above inner. elim (cases_eq node at) [
    | inl same ↦ right_here at value node unions within low is same
    | inr other ↦ kept_union unions at value node other (omega arith) (omega arith) (tree.each node least (omega arith) inner)
  ];
}
  where
    within : at < length unions
    within = let e = tree.count in omega arith

pub all_united : (places start : ℕ) (unions : List ℕ) → IsTreeFrom places unions start → start ≤ 1 → IsTree places unions
all_united places start unions tree low = record { count = tree.count; each = λ node least inner. tree.each node least (omega arith) inner }

-- the same sets behind the nodes
pub same_sets : (places : ℕ) (old new : List ℕ) → length new ≡ length old → ((k : ℕ) → get_or new (places + k) 0 ≡ get_or old (places + k) 0) → drop places new ≡ drop places old
same_sets places old new count same = ext_get_or 0 (drop places new) (drop places old) (
    let a = length-drop places new in let b = length-drop places old in omega arith) (λ i low. get_or-drop places new i 0 ∙ same i ∙ sym (get_or-drop places old i 0))

-- what is read of the node at the top
pub top_is : (places k top : ℕ) (unions : List ℕ) → IsTree places unions → places ≡ 2 ^ k → top ≡ get_or unions 1 top → top ≡ get_or unions 1 0
top_is places k top unions tree power is =
    let some = pow_pos k in
    let count = tree.count in
    get_or_read unions 1 top (omega arith) is 0

-- the walk down to the first place
pub record IsOnWay (places ports : ℕ) (unions : List ℕ) (node : ℕ) : Type 0 where
  pub low : 1 ≤ node
  pub high : node < 2 * places
  pub has : bit_and (get_or unions node 0) ports ≢ 0
  pub levels : ℕ
  pub start : places ≤ node * 2 ^ levels
  pub end : (node + 1) * 2 ^ levels ≤ 2 * places
  pub before : (leaf : ℕ) → places ≤ leaf → leaf < node * 2 ^ levels → bit_and (get_or unions leaf 0) ports ≡ 0

on_way : (places ports node levels : ℕ) (unions : List ℕ) → 1 ≤ node → node < 2 * places → bit_and (get_or unions node 0) ports ≢ 0 → places ≤ node * 2 ^ levels → (node + 1) * 2 ^ levels ≤ 2 * places
    → ((leaf : ℕ) → places ≤ leaf → leaf < node * 2 ^ levels → bit_and (get_or unions leaf 0) ports ≡ 0) → IsOnWay places ports unions node
on_way places ports node levels unions low high has start end before = record { low = low; high = high; has = has; levels = levels; start = start; end = end; before = before }

pub starts_at_top : (places ports k : ℕ) (unions : List ℕ) → places ≡ 2 ^ k → bit_and (get_or unions 1 0) ports ≢ 0 → IsOnWay places ports unions 1
starts_at_top places ports k unions power has =
    let p = pow_pos k in
    record {
      low = omega arith;
      high = omega arith;
      has = has;
      levels = k;
      start = omega arith;
      end = omega arith;
      before = λ leaf high low. absurd (omega arith);
    }

pub goes_down : (places ports node half : ℕ) (unions : List ℕ) → IsTree places unions → IsOnWay places ports unions node → node < places → IsHalf unions ports node half → IsOnWay places ports unions half
goes_down places ports node half unions tree way inner is_half = step way.levels way.start way.end way.before is_half
  where
    union : IsUnion unions node
    union = tree.each node way.low inner

    step : (levels : ℕ) → places ≤ node * 2 ^ levels → (node + 1) * 2 ^ levels ≤ 2 * places → ((leaf : ℕ) → places ≤ leaf → leaf < node * 2 ^ levels → bit_and (get_or unions leaf 0) ports ≡ 0) → IsHalf unions ports node half → IsOnWay places ports unions half
    step zero start end before h = absurd (omega arith)
    step (suc k) start end before h =
        let a = ap (λ (w : ℕ). node * w) (pow-suc 2 k) ∙ doubled node (2 ^ k) in
        let b = ap (λ (w : ℕ). (node + 1) * w) (pow-suc 2 k) ∙ next_doubled node (2 ^ k) in
        let low = way.low in
        elim h [
          | inl (e, has) ↦ subst (λ (n : ℕ). IsOnWay places ports unions n) (sym e) (on_way places ports _ k unions (omega arith) (omega arith) has (omega arith) (omega arith) (λ leaf high less. before leaf high (omega arith)))
          | inr (e, none) ↦ subst (λ (n : ℕ). IsOnWay places ports unions n) (sym e) (on_way places ports _ k unions (omega arith) (omega arith)
              (λ both. way.has (subst (λ (n : ℕ). bit_and n ports ≡ 0) (sym union) (both_have_none (get_or unions (2 * node) 0) (get_or unions (2 * node + 1) 0) ports none both))) (omega arith) (omega arith)
              (λ leaf high less. elim (cases_lt leaf ((2 * node) * 2 ^ k)) [
                | inl left ↦ before leaf high (omega arith)
                | inr right ↦ none_below places ports unions tree k (2 * node) leaf (record { first = right; last = less }) (omega arith) (omega arith) none
              ]))
        ]

pub ends_at_first : (places ports node : ℕ) (unions : List ℕ) → IsTree places unions → IsOnWay places ports unions node → places ≤ node → IsFirst ports (drop places unions) (node - places)
ends_at_first places ports node unions tree way leaf =
    let n = length-drop places unions in
    let c = tree.count in
    let high = way.high in
    record {
      within = omega arith;
      has = λ none. way.has (subst (λ (k : ℕ). bit_and (get_or unions k 0) ports ≡ 0) (let e : places + (node - places) ≡ node = omega arith in e) (subst (λ (set : ℕ). bit_and set ports ≡ 0) (get_or-drop places unions (node - places) 0) none));
      before = λ other less. subst (λ (set : ℕ). bit_and set ports ≡ 0) (sym (get_or-drop places unions other 0)) (way.before (places + other) (omega arith) (
          let p = pow_pos way.levels in
          let m : node ≤ node * 2 ^ way.levels = le-mul_of_pos_right node p in
          omega arith));
    }

pub none_has : (places ports k : ℕ) (unions : List ℕ) → IsTree places unions → places ≡ 2 ^ k → bit_and (get_or unions 1 0) ports ≡ 0 → HasNone ports (drop places unions)
none_has places ports k unions tree power none = λ place d low.
    let n = length-drop places unions in
    let c = tree.count in
    subst (λ (set : ℕ). bit_and set ports ≡ 0) (sym (get_or_default (drop places unions) place d 0 low ∙ get_or-drop places unions place 0)) (
    none_below places ports unions tree k 1 (places + place) (record { first = omega arith; last = omega arith }) (omega arith) (omega arith) none)

-- where the top has no port, no place has one
itself : (n : ℕ) → bit_and n n ≡ n
itself n = same_from_bits (bit_and n n) n (λ i. let e = bit_at_and n n i in omega arith)

none_and : (n : ℕ) → bit_and 0 n ≡ 0
none_and n = no_bits (bit_and 0 n) (λ i. let e = bit_at_and 0 n i in let z = bit_at-zero i in omega arith)

pub all_empty : (kept places k : ℕ) (unions : List ℕ) → IsTree kept unions → kept ≡ 2 ^ k → get_or unions 1 0 ≡ 0 → All (λ sets. sets ≡ 0) (all_sets kept places unions)
all_empty kept places k unions tree power top = All-append (λ (sets : ℕ). sets ≡ 0) (drop kept unions) (replicate (places - kept) 0) each (All-replicate (λ (sets : ℕ). sets ≡ 0) (places - kept) 0 refl)
  where
    each : All (λ sets. sets ≡ 0) (drop kept unions)
    each place d low =
        let sets = get_or (drop kept unions) place d in
        sym (itself sets) ∙ none_has kept sets k unions tree power (ap (λ (n : ℕ). bit_and n sets) top ∙ none_and sets) place d low

-- THE PLACES BEHIND THE KEPT ONES

pub all_count : (kept places capacity : ℕ) (unions : List ℕ) → IsGrown kept places capacity unions → length (all_sets kept places unions) ≡ places
all_count kept places capacity unions grown =
    let a = length-append (drop kept unions) (replicate (places - kept) 0) in
    let b = count_is kept unions grown.tree in
    let c = length-replicate {A = ℕ} (places - kept) 0 in
    let d = grown.below in
    omega arith

-- those that are not kept are empty, and so nothing changes where an empty set is written
pub empty_behind : (kept places capacity place : ℕ) (unions : List ℕ) → IsGrown kept places capacity unions → kept ≤ place → get_or (all_sets kept places unions) place 0 ≡ 0
empty_behind kept places capacity place unions grown past =
    get_or-append_right (drop kept unions) (replicate (places - kept) 0) kept place 0 (count_is kept unions grown.tree) past ∙ all_zero (places - kept) (place - kept)
  where
    all_zero : (n k : ℕ) → get_or (replicate {A = ℕ} n 0) k 0 ≡ 0
    all_zero zero k = refl
    all_zero (suc n) zero = refl
    all_zero (suc n) (suc k) = all_zero n k

pub empty_stays : (kept places capacity place value : ℕ) (unions : List ℕ) → IsGrown kept places capacity unions → kept ≤ place → value ≡ 0 → all_sets kept places unions ≡ set (all_sets kept places unions) place value
empty_stays kept places capacity place value unions grown past none =
    sym (set-get_or (all_sets kept places unions) place 0) ∙ ap (λ (v : ℕ). set (all_sets kept places unions) place v) (empty_behind kept places capacity place unions grown past ∙ sym none)

-- twice as many are kept
pub twice_below : (kept places place : ℕ) → IsPowerOfTwo kept → IsPowerOfTwo places → kept ≤ place → place < places → 2 * kept ≤ places
twice_below kept places place (a, kept_is) (b, places_is) past low = elim (cases_lt a b) [
  | inl less ↦ (
      let e : 2 ^ suc a ≤ 2 ^ b = pow-le-pow_right {n = 2} (omega arith) {i = suc a} {j = b} (omega arith) in
      let f = pow-suc 2 a in
      omega arith)
  | inr more ↦ absurd (let e : 2 ^ b ≤ 2 ^ a = pow-le-pow_right {n = 2} (omega arith) {i = b} {j = a} (omega arith) in omega arith)
]

pub doubled_grown : (kept places capacity more place : ℕ) (old new : List ℕ) → IsGrown kept places capacity old → kept ≤ place → place < places → capacity ≤ more → IsTree (2 * kept) new → IsGrown (2 * kept) places more new
doubled_grown kept places capacity more place old new grown past low enough tree =
    let room = grown.room in
    record {
      tree = tree;
      power = (suc grown.power.0, (let e = grown.power.1 in let f = pow-suc 2 grown.power.0 in omega arith));
      all = grown.all;
      below = twice_below kept places place grown.power grown.all past low;
      most = grown.most;
      room = omega arith;
    }

pub doubled_sets : (kept places : ℕ) (old new : List ℕ) → 2 * kept ≤ places → drop (2 * kept) new ≡ drop kept old ++ replicate kept 0 → all_sets (2 * kept) places new ≡ all_sets kept places old
doubled_sets kept places old new low is =
    let more : kept + (places - 2 * kept) ≡ places - kept = omega arith in
    ap (λ (xs : List ℕ). xs ++ replicate (places - 2 * kept) 0) is
    ∙ append_assoc (drop kept old) (replicate kept 0) (replicate (places - 2 * kept) 0)
    ∙ ap (λ (xs : List ℕ). drop kept old ++ xs) (replicate-append-replicate kept (places - 2 * kept) 0 ∙ ap (λ (n : ℕ). replicate n 0) more)

-- a set is written among the kept ones
pub written_grown : (kept places capacity : ℕ) (old new : List ℕ) → IsGrown kept places capacity old → IsTree kept new → IsGrown kept places capacity new
written_grown kept places capacity old new grown tree = record { tree = tree; power = grown.power; all = grown.all; below = grown.below; most = grown.most; room = grown.room }

pub written_sets : (kept places place value : ℕ) (old new : List ℕ) → IsTree kept old → place < kept → drop kept new ≡ set (drop kept old) place value → all_sets kept places new ≡ set (all_sets kept places old) place value
written_sets kept places place value old new tree low is =
    ap (λ (xs : List ℕ). xs ++ replicate (places - kept) 0) is
    ∙ sym (set-append_left (drop kept old) (replicate (places - kept) 0) place value (let n = count_is kept old tree in omega arith))

-- what is found among the kept ones is found among all
pub none_at_all : (kept places ports : ℕ) (unions : List ℕ) → HasNone ports (drop kept unions) → HasNone ports (all_sets kept places unions)
none_at_all kept places ports unions none =
    All-append (λ (sets : ℕ). bit_and sets ports ≡ 0) (drop kept unions) (replicate (places - kept) 0) none (All-replicate (λ (sets : ℕ). bit_and sets ports ≡ 0) (places - kept) 0 (none_and ports))

pub first_of_all : (kept places ports place : ℕ) (unions : List ℕ) → IsFirst ports (drop kept unions) place → IsFirst ports (all_sets kept places unions) place
first_of_all kept places ports place unions first =
    let zeros : List ℕ = replicate (places - kept) 0 in
    let low = first.within in
    record {
      within = let n = length-append (drop kept unions) zeros in omega arith;
      has = λ none. first.has (ap (λ (sets : ℕ). bit_and sets ports) (sym (get_or_append_left (drop kept unions) zeros 0 place low)) ∙ none);
      before = λ other less. ap (λ (sets : ℕ). bit_and sets ports) (get_or_append_left (drop kept unions) zeros 0 other (omega arith)) ∙ first.before other less;
    }

-- the sets, and as many empty ones behind them
pub doubled_items : (k n m : ℕ) (old mid new : List ℕ) → length old ≡ 2 * k → n ≡ length old → mid ≡ old ++ slice_range old k n → m ≡ length mid → new ≡ take (4 * k) mid ++ replicate (4 * k - m) 0 → (length new ≡ 2 * (2 * k)) × (drop (2 * k) new ≡ drop k old ++ replicate k 0)
doubled_items k n m old mid new count n_is mid_is m_is new_is = (long, behind)
  where
    sets_long : length (drop k old) ≡ k
    sets_long = let e = length-drop k old in omega arith

    sets_are : slice_range old k n ≡ drop k old
    sets_are = take_all (n - k) (drop k old) (let e = sets_long in omega arith)

    middle : mid ≡ old ++ drop k old
    middle = mid_is ∙ ap (λ (xs : List ℕ). old ++ xs) sets_are

    mid_long : length mid ≡ 3 * k
    mid_long = let e = ap (λ (xs : List ℕ). length xs) middle in let f = length-append old (drop k old) in let g = sets_long in omega arith

    all : new ≡ (old ++ drop k old) ++ replicate k 0
    all =
        let left : 4 * k - m ≡ k = (let e = mid_long in omega arith) in
        new_is
        ∙ ap (λ (xs : List ℕ). xs ++ replicate (4 * k - m) 0) (take_all (4 * k) mid (let e = mid_long in omega arith) ∙ middle)
        ∙ ap (λ (j : ℕ). (old ++ drop k old) ++ replicate j 0) left

    long : length new ≡ 2 * (2 * k)
    long =
        let e = ap (λ (xs : List ℕ). length xs) all in
        let f = length-append (old ++ drop k old) (replicate k 0) in
        let g = length-append old (drop k old) in
        let h = length-replicate {A = ℕ} k 0 in
        let i = sets_long in
        omega arith

    behind : drop (2 * k) new ≡ drop k old ++ replicate k 0
    behind =
        ap (drop (2 * k)) (all ∙ append_assoc old (drop k old) (replicate k 0))
        ∙ ap (λ (j : ℕ). drop j (old ++ (drop k old ++ replicate k 0))) (sym count)
        ∙ drop-append_seam old (drop k old ++ replicate k 0)

-- what a vector has after its elements were written as a slice
pub taken_back : (n : ℕ) (new old : List ℕ) → n ≡ length new → take n (new ++ drop (length new) old) ≡ new
taken_back n new old is = ap (λ (k : ℕ). take k (new ++ drop (length new) old)) is ∙ take-append_seam new (drop (length new) old)
