use Rattle.std.proofs.Common.{◌≡◌, ◌∙◌, sym, ap, subst, refl, ℕ, zero, suc, ◌+◌, ◌<◌, ◌≤◌, List, [], ◌∷◌, ◌++◌, Some, Bool, true, false, arith, length, length-append, All, inl, inr, get_or, Less, Equal, Greater}
use Rattle.std.specs.Prelude.{Any, not, nat_lt, ◌==◌, ◌&&◌, IsTrue}
use Rattle.std.proofs.lemmas.Bool.{cases_eq, cases_lt, cases_Bool, eq-eqb, eqb-true}
use Rattle.std.proofs.lemmas.List.{get_or_default}
use Rattle.std.proofs.lemmas.List.Elements.{All-push, All-nil, Contains-append_left}
use Rattle.std.proofs.lemmas.List.Quantifiers.{Any-push}
use Rattle.an_base.specs.Values.{EntryOf}
use Rattle.topo_graph.specs.Topology.{level_at, far_of, IsGraph}
use Rattle.updown.specs.declared.order.Height.{Height}
use Rattle.updown.specs.Order.{place_at, IsHeight, AreHeights, IsDescent}
use Rattle.updown.specs.Routes.{is_up_end, HasDown, HasLegal}
use Rattle.std.specs.declared.cmp.Ordering.{Ordering}
use Rattle.std.specs.Ordering.{nat_cmp, ordering_then, is_lt, is_le}
use Rattle.std.specs.Cmp.{IsTotalOrder, then_total, on_total, nat_cmp_total}
use Rattle.std.specs.List.Sorted.{IsPermutation, IsSorted}
use Rattle.std.proofs.lemmas.List.Sorted.{sorted_far, list_any-IsPermutation, ranks_by}
use Rattle.std.proofs.lemmas.List.Folds.{Any-from_list_any, list_any-from_Any, list_any_at}
use Rattle.std.proofs.lemmas.Bool.Decides.{nat_tests}
use Rattle.an_base.specs.Order.{life_cmp}
use Rattle.topo_graph.specs.Topology.{life_at}
use Rattle.topo_graph.proofs.PlaceLemmas.{life_same}
use Rattle.topo_graph.proofs.TreeLemmas.{places_le}
use Rattle.updown.proofs.RouteLemmas.{one_higher, far_other, down_suc, legal_suc}

-- at first there are none
pub no_heights : (es : List EntryOf) → AreHeights es 0 []
no_heights es = record { count = refl; each = All-nil (IsHeight es); whole = λ x low. absurd (omega arith) }

-- one place more
pub one_height : (es : List EntryOf) (x level : ℕ) (hs : List Height) → AreHeights es x hs → x < length es → level ≡ level_at es x → AreHeights es (x + 1) (hs ++ record { level = level; place = x } ∷ [])
one_height es x level hs so_far low is = record {
  count = omega (arith, so_far.count, length-append hs (record { level = level; place = x } ∷ []));
  each = All-push (IsHeight es) hs (record { level = level; place = x }) so_far.each (low, is);
  whole = λ y below. elim (cases_eq y x) [
    | inl same ↦ Any-push (λ (h : Height). h.place ≡ y) hs (record { level = level; place = x }) (sym same)
    | inr other ↦ (let a = so_far.whole y (omega arith) in let c = Contains-append_left hs (record { level = level; place = x } ∷ []) a.1 (a.0, a.2, a.3) in (c.0, a.1, c.1, c.2, a.4))
  ];
}

-- each place has a position in the order
pub position_is : (es : List EntryOf) (order : List Height) (x : ℕ) → IsDescent es order → x < length es → (k : ℕ) × (k < length order) × (place_at order k ≡ x)
position_is es order x descent low =
    let a = descent.heights.whole x low in
    (a.0, a.2, ap (λ (h : Height). h.place) (get_or_default order a.0 (record { level = 0; place = 0 }) a.1 a.2 ∙ a.3) ∙ a.4)

-- and each position a place
pub place_low : (es : List EntryOf) (order : List Height) (k : ℕ) → IsDescent es order → k < length order → place_at order k < length es
place_low es order k descent low = (descent.heights.each k (record { level = 0; place = 0 }) low).0

-- a link downward leads to a later place
pub later : (es : List EntryOf) (order : List Height) (i p z q : ℕ) → IsGraph es → IsDescent es order → i < length order → far_of es (place_at order i) p ≡ Some (z, q) → is_up_end es z (place_at order i) ≡ false → (j : ℕ) × (i < j) × (j < length order) × (place_at order j ≡ z)
later es order i p z q graph descent low e not_up =
    let within = graph.within (place_at order i) p (z, q) e in
    let at = position_is es order z descent within.far_place in (
      at.0,
      elim (cases_lt i at.0) [
        | inl less ↦ less
        | inr more ↦ (
            let not_down : is_up_end es (place_at order i) z ≡ false = subst (λ (n : ℕ). is_up_end es (place_at order i) n ≡ false) at.2 (descent.falling at.0 i more low) in
            absurd (far_other es (place_at order i) p z q graph e (one_higher es (place_at order i) z graph within.place within.far_place not_down not_up)))
      ],
      at.1,
      at.2,
    )

-- a link upward leads to an earlier one
pub earlier : (es : List EntryOf) (order : List Height) (i p z q : ℕ) → IsGraph es → IsDescent es order → i < length order → far_of es (place_at order i) p ≡ Some (z, q) → is_up_end es z (place_at order i) ≡ true → (j : ℕ) × (j < i) × (place_at order j ≡ z)
earlier es order i p z q graph descent low e up =
    let within = graph.within (place_at order i) p (z, q) e in
    let at = position_is es order z descent within.far_place in (
      at.0,
      elim (cases_lt at.0 i) [
        | inl less ↦ less
        | inr more ↦ absurd (let not_up : is_up_end es z (place_at order i) ≡ false = subst (λ (n : ℕ). is_up_end es n (place_at order i) ≡ false) at.2 (descent.falling i at.0 more at.1) in cc)
      ],
      at.2,
    )

-- a route downward is no longer than the places after its start
pub down_bound : (es : List EntryOf) (order : List Height) (to n i x : ℕ) → IsGraph es → IsDescent es order → i < length order → place_at order i ≡ x → HasDown es x to n → n + i < length order
down_bound es order to zero i x graph descent low at has = omega arith
down_bound es order to (suc n) i x graph descent low at has =
    let f = down_suc es x to n has in
    let e : far_of es (place_at order i) f.0 ≡ Some (f.1.0, f.1.1) = rw at f.1.2 in
    let not_up : is_up_end es f.1.0 (place_at order i) ≡ false = rw at f.1.3 in
    let j = later es order i f.0 f.1.0 f.1.1 graph descent low e not_up in
    let rest = down_bound es order to n j.0 f.1.0 graph descent j.2 j.3 f.1.4 in
    let less = j.1 in
    omega arith

-- a legal route is no longer than the places before its start, and all but one
pub legal_bound : (es : List EntryOf) (order : List Height) (to n i x : ℕ) → IsGraph es → IsDescent es order → i < length order → place_at order i ≡ x → HasLegal es x to n → n < length order + i
legal_bound es order to zero i x graph descent low at has = omega arith
legal_bound es order to (suc n) i x graph descent low at has =
    let f = legal_suc es x to n has in
    let e : far_of es (place_at order i) f.0 ≡ Some (f.1.0, f.1.1) = rw at f.1.2 in
    elim f.1.3 [
      | inl up ↦ (
          let is : is_up_end es f.1.0 (place_at order i) ≡ true = rw at up.0 in
          let j = earlier es order i f.0 f.1.0 f.1.1 graph descent low e is in
          let rest = legal_bound es order to n j.0 f.1.0 graph descent (let l = j.1 in omega arith) j.2 up.1 in
          let less = j.1 in
          omega arith)
      | inr down ↦ (
          let not_up : is_up_end es f.1.0 (place_at order i) ≡ false = rw at down.0 in
          let j = later es order i f.0 f.1.0 f.1.1 graph descent low e not_up in
          let rest = down_bound es order to n j.0 f.1.0 graph descent j.2 j.3 down.1 in
          let less = j.1 in
          omega arith)
    ]

-- how the sort compares heights
abbrev pub by_height : Height → Height → Ordering
by_height a b = ordering_then (nat_cmp a.level b.level) (nat_cmp a.place b.place)

by_height_total : IsTotalOrder by_height
by_height_total = then_total (on_total (λ h. h.level) nat_cmp_total) (on_total (λ h. h.place) nat_cmp_total)

-- a permutation has what the list has
kept_whole : (x : ℕ) (hs ks : List Height) → IsPermutation hs ks → Any (λ h. h.place ≡ x) hs → Any (λ h. h.place ≡ x) ks
kept_whole x hs ks moved any =
    let test : Height → Bool = λ h. h.place == x in
    let there = list_any-from_Any test hs (any.0, any.1, any.2, any.3, eq-eqb any.1.place x any.4) in
    let found = Any-from_list_any test ks (sym (list_any-IsPermutation test hs ks moved) ∙ there) in
    (found.0, found.1, found.2, found.3, eqb-true found.1.place x found.4)

-- the test of a height
abbrev is_not_height : List EntryOf → Height → Bool
is_not_height es h = not (nat_lt h.place (length es) && (h.level == level_at es h.place))

passes : (a n l m : ℕ) → a < n → l ≡ m → not (nat_lt a n && (l == m)) ≡ false
passes a n l m less same = grind (arith, nat_tests)

place_of_test : (a n l m : ℕ) → not (nat_lt a n && (l == m)) ≡ false → a < n
place_of_test a n l m test = grind (arith, nat_tests)

level_of_test : (a n l m : ℕ) → not (nat_lt a n && (l == m)) ≡ false → l ≡ m
level_of_test a n l m test = grind (arith, nat_tests)

kept_each : (es : List EntryOf) (hs ks : List Height) → IsPermutation hs ks → All (IsHeight es) hs → All (IsHeight es) ks
kept_each es hs ks moved all = λ k d low.
    let h = get_or ks k d in
    elim (cases_Bool (is_not_height es h)) [
      | inl bad ↦ absurd (
          let there = list_any_at (is_not_height es) ks k d low bad in
          let found = Any-from_list_any (is_not_height es) hs (list_any-IsPermutation (is_not_height es) hs ks moved ∙ there) in
          let good = subst (λ (g : Height). IsHeight es g) found.3 (all found.0 found.1 found.2) in
          let test = passes found.1.place (length es) found.1.level (level_at es found.1.place) good.0 good.1 in
          let same = found.4 in
          cc)
      | inr good ↦ (place_of_test h.place (length es) h.level (level_at es h.place) good, level_of_test h.place (length es) h.level (level_at es h.place) good)
    ]

less_le : (o : Ordering) → is_lt o ≡ true → IsTrue (is_le o)
less_le Less e = refl
less_le Equal e = absurd (cc)
less_le Greater e = absurd (cc)

-- a life at a later place is not less
lives_not_less : (es : List EntryOf) (x y : ℕ) → IsGraph es → x < length es → y ≤ x → is_lt (life_cmp (life_at es x) (life_at es y)) ≡ false
lives_not_less es x y graph low le = elim (cases_Bool (is_lt (life_cmp (life_at es x) (life_at es y)))) [
  | inl less ↦ absurd (
      let k = places_le es x y graph.rising low (less_le (life_cmp (life_at es x) (life_at es y)) less) in
      let same : x ≡ y = omega arith in
      let equal : life_cmp (life_at es x) (life_at es y) ≡ Equal = rw same (life_same (life_at es y)) in
      let not_less : is_lt (life_cmp (life_at es x) (life_at es y)) ≡ false = ap is_lt equal in
      cc)
  | inr more ↦ more
]

not_less : (a b : ℕ) → is_lt (nat_cmp a b) ≡ false → b ≤ a
not_less a b test = grind (arith, nat_tests)

then_not_less : (o p q : Ordering) → is_lt (ordering_then o p) ≡ false → (is_lt p ≡ false → is_lt q ≡ false) → is_lt (ordering_then o q) ≡ false
then_not_less Less p q test both = absurd (cc)
then_not_less Equal p q test both = both test
then_not_less Greater p q test both = refl

-- what is not less by level and place is not higher
not_higher : (es : List EntryOf) (a b : Height) → IsGraph es → IsHeight es a → IsHeight es b → is_lt (by_height a b) ≡ false → is_up_end es a.place b.place ≡ false
not_higher es a b graph is_a is_b test =
    let lives = life_cmp (life_at es a.place) (life_at es b.place) in
    let levels : is_lt (ordering_then (nat_cmp a.level b.level) lives) ≡ false = then_not_less (nat_cmp a.level b.level) (nat_cmp a.place b.place) lives test (λ more. lives_not_less es a.place b.place graph is_a.0 (not_less a.place b.place more)) in
    subst (λ (m : ℕ). is_lt (ordering_then (nat_cmp (level_at es a.place) m) lives) ≡ false) is_b.1 (subst (λ (l : ℕ). is_lt (ordering_then (nat_cmp l b.level) lives) ≡ false) is_a.1 levels)

-- the heights in order
pub sorted_descent : (es : List EntryOf) (hs ks : List Height) → IsGraph es → AreHeights es (length es) hs → IsPermutation hs ks → length ks ≡ length hs → IsSorted by_height ks → IsDescent es ks
sorted_descent es hs ks graph heights moved same sorted =
    let each = kept_each es hs ks moved heights.each in
    let none : Height = record { level = 0; place = 0 } in
    record {
      heights = record {
        count = same ∙ heights.count;
        each = each;
        whole = λ x low. kept_whole x hs ks moved (heights.whole x low);
      };
      falling = λ i j le low.
          not_higher es (get_or ks j none) (get_or ks i none) graph (each j none low) (each i none (omega arith))
          (sorted_far (λ x y. is_lt (by_height x y)) (ranks_by by_height_total (λ h. h)) ks sorted i j none le low);
    }
