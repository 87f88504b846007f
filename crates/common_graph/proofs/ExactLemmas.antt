-- Exact levels.
use Rattle.std.proofs.Common.{◌≡◌, ◌≢◌, ◌∙◌, sym, ap, subst, refl, ℕ, zero, suc, ◌+◌, ◌-◌, ◌<◌, ◌≤◌, List, [], ◌∷◌, arith, length, set, replicate, inl, inr}
use Rattle.std.proofs.lemmas.Bool.{cases_eq, cases_lt}
use Rattle.std.proofs.lemmas.List.{get_or-set_other, get_or-set_same, get_or-replicate, length-set, length-replicate}
use Rattle.common_values.proofs.PigeonLemmas.{pigeons}
use Rattle.common_graph.specs.Graph.{GraphOf, LeadsTo, IsNode, AreWithin, value_at}
use Rattle.common_graph.specs.Cycles.{Path}
use Rattle.common_graph.specs.Search.{Holds, FallsTo, HasBelow, AreExact, HasNoCycleFrom, IsNextBelow}

-- a value of a table that was written to
pub value_same : (table : List ℕ) (node value other : ℕ) → node < length table → other ≡ node → value_at (set table node value) other ≡ value
value_same table node value other low same = ap (λ (k : ℕ). value_at (set table node value) k) same ∙ get_or-set_same table node value 0 low

pub value_other : (table : List ℕ) (node value other : ℕ) → other ≢ node → value_at (set table node value) other ≡ value_at table other
value_other table node value other away = get_or-set_other table node other value 0 away

-- levels at first
pub exact_first : (graph : GraphOf) (start : ℕ) → IsNode graph start → length graph.bases < 2147483648 → AreWithin graph → AreExact graph (set (replicate (length graph.bases) 4294967295) start 0) start
exact_first graph start is few within = record {
  count = length-set (replicate (length graph.bases) 4294967295) start 0 ∙ length-replicate (length graph.bases) 4294967295;
  few = few;
  within = within;
  reached = λ node low less. elim (cases_eq node start) [
    | inl same ↦ inl same
    | inr away ↦ absurd (
        let e = value_other (replicate (length graph.bases) 4294967295) start 0 node away in
        let f = get_or-replicate (length graph.bases) node 4294967295 0 low in
        let h : value_at (set (replicate (length graph.bases) 4294967295) start 0) node ≡ 4294967295 = e ∙ f in
        omega arith)
  ];
}

-- a level that is lowered
pub exact_more : (graph : GraphOf) (levels : List ℕ) (start node next : ℕ) → AreExact graph levels start → FallsTo graph levels 1 node next → AreExact graph (set levels node (value_at levels next + 1)) start
exact_more graph levels start node next exact falls =
    let low = falls.step.low in
    let count = exact.count in
    let room : node < length levels = omega arith in
    let less = falls.falls in
    let new = value_at levels next + 1 in
    let apart : next ≢ node = (λ same. absurd (let e = ap (value_at levels) same in omega arith)) in
    record {
      count = length-set levels node new ∙ exact.count;
      few = exact.few;
      within = exact.within;
      reached = λ other is small. elim (cases_eq other node) [
        | inl same ↦ (
            let e = value_same levels node new other room same in
            let f = value_other levels node new next apart in
            inr (next, subst (λ (x : ℕ). LeadsTo graph x next) (sym same) falls.step, omega arith))
        | inr away ↦ (
            let e = value_other levels node new other away in
            elim (exact.reached other is (omega arith)) [
              | inl goal ↦ inl goal
              | inr (after, step, down) ↦ inr (
                after,
                step,
                elim (cases_eq after node) [
                  | inl here ↦ (let f = value_same levels node new after room here in let g = ap (value_at levels) here in omega arith)
                  | inr there ↦ (let f = value_other levels node new after there in omega arith)
                ],
              )
            ])
      ];
    }

module _ (graph : GraphOf) (levels : List ℕ) (start : ℕ) (holds : Holds graph levels 1) (goal : value_at levels start ≡ 0) (exact : AreExact graph levels start) where
  -- a node of a level leads to one of the level below
  below : (s n : ℕ) → IsNode graph s → value_at levels s ≡ suc n → suc n < 4294967295 → (b : ℕ) × IsNode graph b × (value_at levels b ≡ n)
  below s n is has small = elim (exact.reached s is (omega arith)) [
    | inl same ↦ absurd (let e = ap (value_at levels) same in omega arith)
    | inr (b, step, less) ↦ (let near = holds s b step in (b, exact.within s b step, omega arith))
  ]

  record Node : Type 0 where
    node : ℕ
    is : IsNode graph node
    level : ℕ
    has : value_at levels node ≡ level
    small : level < 4294967295

  lower : (x : Node) → (n : ℕ) → x.level ≡ n → Node
  lower x zero e = x
  lower x (suc n) e =
      let small = x.small in
      let b = below x.node n x.is (x.has ∙ e) (omega arith) in
      record { node = b.0; is = b.1; level = n; has = b.2; small = omega arith }

  node_at : Node → ℕ → Node
  node_at first zero = first
  node_at first (suc k) = let x = node_at first k in lower x x.level refl

  lower_level : (x : Node) (n : ℕ) (e : x.level ≡ n) → (lower x n e).level ≡ n - 1
  unfolding lower
  lower_level x zero e = e
  lower_level x (suc n) e = omega arith

  node_level : (first : Node) (k : ℕ) → (node_at first k).level ≡ first.level - k
  unfolding node_at
  node_level first zero = omega arith
  node_level first (suc k) =
      let x = node_at first k in
      let h = node_level first k in
      let l = lower_level x x.level refl in
      omega arith

  -- so levels are fewer than the nodes
  few_levels : (s : ℕ) → IsNode graph s → value_at levels s < 4294967295 → value_at levels s < length graph.bases
  few_levels s is small = elim (cases_lt (value_at levels s) (length graph.bases)) [
    | inl less ↦ less
    | inr more ↦ absurd (
        let first : Node = record { node = s; is = is; level = value_at levels s; has = refl; small = small } in
        let p = pigeons (length graph.bases) (λ k. (node_at first k).node) (λ k low. (node_at first k).is) in
        let x = node_at first p.0 in
        let y = node_at first p.1 in
        let same : x.level ≡ y.level = sym x.has ∙ ap (value_at levels) p.4 ∙ y.has in
        let lt = p.2 in
        let le = p.3 in
        let a = node_level first p.0 in
        let b = node_level first p.1 in
        omega arith)
  ]

  -- what leads to the goal has a level
  finite : (a : ℕ) (ds : List ℕ) → Path (LeadsTo graph) a ds start → value_at levels a < 4294967295
  finite a [] step = let h = holds a start step in omega arith
  finite a (d ∷ ds) (step, path) =
      let rest = finite d ds path in
      let h = holds a d step in
      let low = few_levels d (exact.within a d step) rest in
      let few = exact.few in
      omega arith

  -- where nothing that the start leads to has a level there is no cycle
  pub no_cycle_high : (n : ℕ) → n ≡ 4294967295 → ((next : ℕ) → LeadsTo graph start next → n ≤ value_at levels next) → HasNoCycleFrom graph start
  no_cycle_high n none high [] step = absurd (let h = high start step in omega arith)
  no_cycle_high n none high (d ∷ ds) (step, path) = absurd (let h = high d step in let f = finite d ds path in omega arith)

  -- what is next on the way down leads to one of the next level
  pub below_next : (z b l : ℕ) → 0 < l → l < 4294967295 → ((next : ℕ) → LeadsTo graph z next → l ≤ value_at levels next) → IsNextBelow graph levels z l b → HasBelow graph levels b (l - 1)
  below_next z b l some small high is =
      let at = high b is.step in
      let low = is.low in
      elim (exact.reached b (exact.within z b is.step) (omega arith)) [
        | inl same ↦ absurd (let e = ap (value_at levels) same in omega arith)
        | inr (c, step, less) ↦ (c, step, omega arith)
      ]

  -- a node of level 0 is the start
  pub leads_to_goal : (z : ℕ) → HasBelow graph levels z 0 → LeadsTo graph z start
  leads_to_goal z (b, step, low) = elim (exact.reached b (exact.within z b step) (omega arith)) [
    | inl same ↦ subst (λ (x : ℕ). LeadsTo graph z x) same step
    | inr (c, after, less) ↦ absurd (omega arith)
  ]

-- and to none of a lower one
pub high_next : (graph : GraphOf) (levels : List ℕ) (z b l : ℕ) → Holds graph levels 1 → ((next : ℕ) → LeadsTo graph z next → l ≤ value_at levels next) → IsNextBelow graph levels z l b → (next : ℕ) → LeadsTo graph b next → l - 1 ≤ value_at levels next
high_next graph levels z b l holds high is next step =
    let at = high b is.step in
    let near = holds b next step in
    omega arith
