-- Ranks on the way up, and at their end.
use Rattle.std.proofs.Common.{◌≡◌, ◌∙◌, sym, ap, subst, refl, ℕ, zero, suc, Some, ◌+◌, ◌<◌, ◌≤◌, List, [], ◌∷◌, arith, length, set, replicate, inl, inr}
use Rattle.std.specs.Prelude.{slice_get}
use Rattle.std.proofs.lemmas.Bool.{cases_eq, cases_lt}
use Rattle.std.proofs.lemmas.List.{get_or-replicate, length-set, length-replicate}
use Rattle.std.proofs.lemmas.Option.{same_Some, slice_get-get_or, slice_get_past}
use Rattle.common_values.proofs.PigeonLemmas.{pigeons}
use Rattle.common_graph.specs.Graph.{GraphOf, LeadsTo, IsNode, AreWithin, value_at, Fall, IsFirstRise}
use Rattle.common_graph.specs.Cycles.{Walk, Path, HasNoCycle}
use Rattle.common_graph.specs.Search.{AreRising}
use Rattle.common_graph.specs.Verdict.{AreAllRanks}
use Rattle.common_graph.proofs.CycleLemmas.{path_low}
use Rattle.common_graph.proofs.ExactLemmas.{value_same, value_other}

-- ranks fall along a path
path_down : (graph : GraphOf) (ranks : List ℕ) → AreAllRanks graph ranks → (a : ℕ) (cs : List ℕ) (z n : ℕ) → slice_get ranks a ≡ Some n → Path (LeadsTo graph) a cs z → (m : ℕ) × (slice_get ranks z ≡ Some m) × (m < n)
path_down graph ranks are a [] z n has step =
    let own = are.nodes a step.low in
    let below = own.2.above z step in
    let same = same_Some own.0 n (sym own.1 ∙ has) in
    let less = below.2 in
    (below.0, below.1, omega arith)
path_down graph ranks are a (c ∷ cs) z n has (step, path) =
    let own = are.nodes a step.low in
    let below = own.2.above c step in
    let same = same_Some own.0 n (sym own.1 ∙ has) in
    let rest = path_down graph ranks are c cs z below.0 below.1 path in
    let less = below.2 in
    let more = rest.2 in
    (rest.0, rest.1, omega arith)

-- so where all nodes have ranks none lead round
pub ranks_no_cycle : (graph : GraphOf) (ranks : List ℕ) → AreAllRanks graph ranks → HasNoCycle (LeadsTo graph)
ranks_no_cycle graph ranks are a cs cycle = absurd (
    let own = are.nodes a (path_low graph a cs a cycle) in
    let down = path_down graph ranks are a cs a own.0 own.1 cycle in
    let same = same_Some own.0 down.0 (sym own.1 ∙ down.1) in
    let less = down.2 in
    omega arith)

-- the nodes of a walk
module _ (graph : GraphOf) (within : AreWithin graph) where
  at : (k a z : ℕ) → Walk (LeadsTo graph) k a z → ℕ → ℕ
  at zero a z walk i = a
  at (suc k) a z (b, step, walk) zero = a
  at (suc k) a z (b, step, walk) (suc i) = at k b z walk i

  at_first : (k a z : ℕ) (walk : Walk (LeadsTo graph) k a z) → at k a z walk 0 ≡ a
  unfolding at
  at_first zero a z walk = refl
  at_first (suc k) a z (b, step, walk) = refl

  at_low : (k a z : ℕ) (walk : Walk (LeadsTo graph) k a z) (i : ℕ) → IsNode graph a → IsNode graph (at k a z walk i)
  unfolding at
  at_low zero a z walk i is = is
  at_low (suc k) a z (b, step, walk) zero is = is
  at_low (suc k) a z (b, step, walk) (suc i) is = at_low k b z walk i (within a b step)

  front : (k a z : ℕ) (walk : Walk (LeadsTo graph) k a z) (j : ℕ) → suc j ≤ k → (cs : List ℕ) × Path (LeadsTo graph) a cs (at k a z walk (suc j))
  unfolding at
  front zero a z walk j le = absurd (omega arith)
  front (suc k) a z (b, step, walk) zero le = ([], subst (λ (x : ℕ). LeadsTo graph a x) (sym (at_first k b z walk)) step)
  front (suc k) a z (b, step, walk) (suc j) le = let rest = front k b z walk j (omega arith) in (b ∷ rest.0, (step, rest.1))

  part_more : (k a z b : ℕ) (step : LeadsTo graph a b) (walk : Walk (LeadsTo graph) k b z) → ((i j : ℕ) → i < j → j ≤ k → (cs : List ℕ) × Path (LeadsTo graph) (at k b z walk i) cs (at k b z walk j)) → (i j : ℕ) → i < j → j ≤ suc k → (cs : List ℕ) × Path (LeadsTo graph) (at (suc k) a z (b, step, walk) i) cs (at (suc k) a z (b, step, walk) j)
  unfolding at
  part_more k a z b step walk rest i zero lt le = absurd (omega arith)
  part_more k a z b step walk rest zero (suc j) lt le = front (suc k) a z (b, step, walk) j le
  part_more k a z b step walk rest (suc i) (suc j) lt le = rest i j (omega arith) (omega arith)

  part : (k a z : ℕ) (walk : Walk (LeadsTo graph) k a z) (i j : ℕ) → i < j → j ≤ k → (cs : List ℕ) × Path (LeadsTo graph) (at k a z walk i) cs (at k a z walk j)
  part zero a z walk i j lt le = absurd (omega arith)
  part (suc k) a z (b, step, walk) i j lt le = part_more k a z b step walk (λ n m. part k b z walk n m) i j lt le

  -- a walk of as many steps as there are nodes has a cycle
  pub few_steps : HasNoCycle (LeadsTo graph) → (k a z : ℕ) → IsNode graph a → Walk (LeadsTo graph) k a z → k < length graph.bases
  few_steps none k a z is walk = elim (cases_lt k (length graph.bases)) [
    | inl less ↦ less
    | inr more ↦ absurd (
        let p = pigeons (length graph.bases) (at k a z walk) (λ i low. at_low k a z walk i is) in
        let lt = p.2 in
        let le = p.3 in
        let round = part k a z walk p.0 p.1 lt (omega arith) in
        none (at k a z walk p.0) round.0 (subst (λ (x : ℕ). Path (LeadsTo graph) (at k a z walk p.0) round.0 x) (sym p.4) round.1))
  ]

-- ranks at first
pub rising_first : (graph : GraphOf) → length graph.bases < 2147483648 → AreWithin graph → AreRising graph (replicate (length graph.bases) 0)
rising_first graph few within =
    let zero_at : (node : ℕ) → IsNode graph node → value_at (replicate (length graph.bases) 0) node ≡ 0 = (λ node is. get_or-replicate (length graph.bases) node 0 0 is) in
    record {
      count = length-replicate (length graph.bases) 0;
      few = few;
      within = within;
      walks = λ node is. (node, subst (λ (k : ℕ). Walk (LeadsTo graph) k node node) (sym (zero_at node is)) refl);
      tight = λ node is. inl (zero_at node is);
    }

-- a rank that is raised
pub rising_more : (graph : GraphOf) (ranks : List ℕ) (node next : ℕ) → AreRising graph ranks → IsFirstRise graph ranks node next → AreRising graph (set ranks node (value_at ranks next + 1))
rising_more graph ranks node next rising rises =
    let low = rises.step.low in
    let count = rising.count in
    let room : node < length ranks = omega arith in
    let more = rises.rises in
    let new = value_at ranks next + 1 in
    record {
      count = length-set ranks node new ∙ rising.count;
      few = rising.few;
      within = rising.within;
      walks = λ other is. elim (cases_eq other node) [
        | inl same ↦ (
            let walk = rising.walks next (rising.within node next rises.step) in
            let e : suc (value_at ranks next) ≡ value_at (set ranks node new) other = sym (value_same ranks node new other room same ∙ (let f : value_at ranks next + 1 ≡ suc (value_at ranks next) = omega arith in f)) in
            (walk.0, subst (λ (k : ℕ). Walk (LeadsTo graph) k other walk.0) e (next, subst (λ (x : ℕ). LeadsTo graph x next) (sym same) rises.step, walk.1)))
        | inr away ↦ (let walk = rising.walks other is in (walk.0, subst (λ (k : ℕ). Walk (LeadsTo graph) k other walk.0) (sym (value_other ranks node new other away)) walk.1))
      ];
      tight = λ other is. elim (cases_eq other node) [
        | inl same ↦ (
            let e = value_same ranks node new other room same in
            inr (
              next,
              subst (λ (x : ℕ). LeadsTo graph x next) (sym same) rises.step,
              elim (cases_eq next node) [
                | inl here ↦ (let f = value_same ranks node new next room here in omega arith)
                | inr there ↦ (let f = value_other ranks node new next there in omega arith)
              ],
            ))
        | inr away ↦ (
            let e = value_other ranks node new other away in
            elim (rising.tight other is) [
              | inl none ↦ inl (e ∙ none)
              | inr (after, step, near) ↦ inr (
                after,
                step,
                elim (cases_eq after node) [
                  | inl here ↦ (let f = value_same ranks node new after room here in let g = ap (value_at ranks) here in omega arith)
                  | inr there ↦ (let f = value_other ranks node new after there in omega arith)
                ],
              )
            ])
      ];
    }

-- ranks at the end
pub rising_last : (graph : GraphOf) (ranks : List ℕ) → AreRising graph ranks → Fall graph ranks → AreAllRanks graph ranks
rising_last graph ranks rising sinks =
    let count = rising.count in
    let is : (node : ℕ) → IsNode graph node → slice_get ranks node ≡ Some (value_at ranks node) = (λ node low. slice_get-get_or ranks node 0 (omega arith)) in
    record {
      nodes = λ node low. (
        value_at ranks node,
        is node low,
        record {
          above = λ after step. (value_at ranks after, is after (rising.within node after step), sinks node after step);
          next = elim (rising.tight node low) [
            | inl none ↦ inl none
            | inr (after, step, near) ↦ (let less = sinks node after step in inr (after, value_at ranks after, step, is after (rising.within node after step), omega arith))
          ];
        },
      );
      others = λ node not. slice_get_past ranks node (elim (cases_lt node (length ranks)) [
        | inl less ↦ absurd (not (omega arith))
        | inr more ↦ more
      ]);
    }
