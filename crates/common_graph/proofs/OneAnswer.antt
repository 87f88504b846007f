-- The verdict is one: ranks are one, the least cycle is one, and where ranks are there is no cycle.
use Rattle.std.proofs.Common.{◌≡◌, ◌∙◌, sym, ap, subst, refl, ℕ, zero, suc, ◌<◌, ◌≤◌, List, [], ◌∷◌, Option, Some, true, arith, Equal, length, inl, inr, ◌⊎◌}
use Rattle.std.specs.declared.cmp.Ordering.{Ordering}
use Rattle.std.specs.Prelude.{slice_get}
use Rattle.std.specs.Ordering.{is_le}
use Rattle.std.specs.Cmp.{IsTotalOrder}
use Rattle.std.specs.Cmp.Lexicographic.{slice_cmp}
use Rattle.std.proofs.lemmas.Bool.{cases_lt}
use Rattle.std.proofs.lemmas.Cmp.{lists_total}
use Rattle.std.proofs.lemmas.List.{ext_get_or}
use Rattle.std.proofs.lemmas.Option.{same_Some, get_or_from_slice_get, slice_get-get_or, slice_get_past}
use Rattle.common_values.proofs.OrderingLemmas.{then_equal, tied}
use Rattle.common_graph.specs.Graph.{GraphOf, LeadsTo, IsNode}
use Rattle.common_graph.specs.Cycles.{HasNoCycle, IsLeastCycle, IsRank, AreRanks}
use Rattle.common_graph.specs.Verdict.{AreAllRanks}

module _ {Node : Type 0} (compare : Node → Node → Ordering) (total : IsTotalOrder compare) (same : (x y : Node) → compare x y ≡ Equal → x ≡ y) where
  both_equal : (x y : Node) → is_le (compare x y) ≡ true → is_le (compare y x) ≡ true → compare x y ≡ Equal
  both_equal x y a b = tied (compare x y) (compare y x) (total.antisymm x y) a b

  list_same : (xs ys : List Node) → slice_cmp compare xs ys ≡ Equal → xs ≡ ys
  list_same [] [] e = refl
  list_same [] (y ∷ ys) e = absurd (cc)
  list_same (x ∷ xs) [] e = absurd (cc)
  list_same (x ∷ xs) (y ∷ ys) e = let parts = then_equal (compare x y) (slice_cmp compare xs ys) e in rw (same x y parts.0, list_same xs ys parts.1) refl

  lists_equal : (xs ys : List Node) → is_le (slice_cmp compare xs ys) ≡ true → is_le (slice_cmp compare ys xs) ≡ true → xs ≡ ys
  lists_equal xs ys a b = list_same xs ys (tied (slice_cmp compare xs ys) (slice_cmp compare ys xs) ((lists_total total).antisymm xs ys) a b)

  -- the least cycle is one
  pub one_cycle : (Step : Node → Node → Type 0) (xs ys : List Node) → IsLeastCycle compare Step xs → IsLeastCycle compare Step ys → xs ≡ ys
  one_cycle Step [] ys a b = absurd a
  one_cycle Step (x ∷ xs) [] a b = absurd b
  one_cycle Step (x ∷ xs) (y ∷ ys) a b =
      let first : x ≡ y = same x y (both_equal x y (a.first y ys b.from.closed) (b.first x xs a.from.closed)) in
      rest y first b
    where
      rest : (z : Node) → x ≡ z → IsLeastCycle compare Step (z ∷ ys) → x ∷ xs ≡ z ∷ ys
      rest z first least =
          let here : IsLeastCycle compare Step (x ∷ ys) = subst (λ (n : Node). IsLeastCycle compare Step (n ∷ ys)) (sym first) least in
          let up = a.from.shortest ys here.from.closed in
          let down = here.from.shortest xs a.from.closed in
          let lists = lists_equal xs ys (a.from.least ys here.from.closed (omega arith)) (here.from.least xs a.from.closed (omega arith)) in
          rw (first, lists) refl

pub no_both : {Node : Type 0} (compare : Node → Node → Ordering) (Step : Node → Node → Type 0) (nodes : List Node) → IsLeastCycle compare Step nodes → HasNoCycle Step → ⊥
no_both compare Step [] least none = least
no_both compare Step (x ∷ xs) least none = none x xs least.from.closed

-- there are as many ranks as nodes
pub as_many : (graph : GraphOf) (ranks : List ℕ) → AreAllRanks graph ranks → length ranks ≡ length graph.bases
as_many graph ranks are = elim (cases_lt (length ranks) (length graph.bases)) [
  | inl less ↦ absurd (let own = are.nodes (length ranks) less in let none = slice_get_past ranks (length ranks) (omega arith) in cc)
  | inr more ↦ elim (cases_lt (length graph.bases) (length ranks)) [
    | inl less ↦ absurd (let none = are.others (length graph.bases) (λ is. absurd (omega arith)) in let some = slice_get-get_or ranks (length graph.bases) 0 less in cc)
    | inr le ↦ omega arith
  ]
]

-- ranks are one
module _ {Node : Type 0} (Is : Node → Type 0) (decided : (node : Node) → Is node ⊎ (Is node → ⊥)) (Step : Node → Node → Type 0) where
  -- a node that has a rank has this one
  known : (rank : Node → Option ℕ) → AreRanks Is Step rank → (node : Node) (own : ℕ) → rank node ≡ Some own → IsRank Step rank node own
  known rank are node own has = elim (decided node) [
    | inl is ↦ (let h = are.nodes node is in subst (λ (n : ℕ). IsRank Step rank node n) (same_Some h.0 own (sym h.1 ∙ has)) h.2)
    | inr other ↦ absurd (let none = are.others node other in cc)
  ]

  module _ (one other : Node → Option ℕ) (are : AreRanks Is Step one) (too : AreRanks Is Step other) where
    same_rank : (most : ℕ) (node : Node) (n m : ℕ) → n < most → one node ≡ Some n → other node ≡ Some m → n ≡ m
    same_rank zero node n m low e f = absurd (omega arith)
    same_rank (suc most) node n m low e f =
        let a = known one are node n e in
        let b = known other too node m f in
        let up : n ≤ m = elim a.next [
          | inl first ↦ omega arith
          | inr (next, k, step, level, is) ↦ (let over = b.above next step in let less = over.2 in let same = same_rank most next k over.0 (omega arith) level over.1 in omega arith)
        ] in
        let down : m ≤ n = elim b.next [
          | inl first ↦ omega arith
          | inr (next, k, step, level, is) ↦ (let over = a.above next step in let less = over.2 in let same = same_rank most next over.0 k (omega arith) over.1 level in omega arith)
        ] in
        omega arith

    pub one_rank : (node : Node) → one node ≡ other node
    one_rank node = elim (decided node) [
      | inr away ↦ are.others node away ∙ sym (too.others node away)
      | inl is ↦ (
          let a = are.nodes node is in
          let b = too.nodes node is in
          let same = same_rank (suc a.0) node a.0 b.0 (omega arith) a.1 b.1 in
          a.1 ∙ ap (λ (n : ℕ). Some n) same ∙ sym b.1)
    ]

is_node : (graph : GraphOf) (node : ℕ) → IsNode graph node ⊎ (IsNode graph node → ⊥)
is_node graph node = elim (cases_lt node (length graph.bases)) [
  | inl is ↦ inl is
  | inr high ↦ inr (λ is. absurd (omega arith))
]

-- those of a graph are one list
pub one_list : (graph : GraphOf) (one other : List ℕ) → AreAllRanks graph one → AreAllRanks graph other → one ≡ other
one_list graph one other are too =
    let count = as_many graph one are in
    let size = as_many graph other too in
    ext_get_or 0 one other (omega arith) (λ node low.
    let a = are.nodes node (omega arith) in
    let same = one_rank (IsNode graph) (is_node graph) (LeadsTo graph) (slice_get one) (slice_get other) are too node in
    get_or_from_slice_get one node a.0 0 a.1 ∙ sym (get_or_from_slice_get other node a.0 0 (sym same ∙ a.1)))
