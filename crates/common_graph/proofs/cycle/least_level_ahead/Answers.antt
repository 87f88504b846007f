use Rattle.std.proofs.Common.{◌≡◌, ◌∙◌, ◌≤◌, ◌⊎◌, ◌+◌, min, ℕ, List, ap, sym, subst, arith, inl, inr}
use Rattle.std.proofs.lemmas.Bool.{cases_lt}
use Rattle.common_graph.specs.Graph.{GraphOf, IsNext, value_at}
use Rattle.common_graph.specs.Search.{IsLowest, HasBelow}
use Rattle.common_graph.proofs.HeightLemmas.{before_next}
use Rattle.common_graph.proofs.cycle.least_level_ahead.Goals as goal

low_more : (graph : GraphOf) (levels : List ℕ) (node from next old new : ℕ) → IsNext graph node from next → new ≤ old → new ≤ value_at levels next → IsLowest graph levels node from old → IsLowest graph levels node (next + 1) new
low_more graph levels node from next old new is le here so_far after low leads = elim (before_next graph node from next after is low leads) [
  | inl same ↦ (let e = ap (value_at levels) same in omega arith)
  | inr before ↦ (let h = so_far after before leads in omega arith)
]

has_more : (graph : GraphOf) (levels : List ℕ) (node from next old new : ℕ) → IsNext graph node from next → new ≡ min old (value_at levels next) → (old ≡ 4294967295) ⊎ HasBelow graph levels node old → (new ≡ 4294967295) ⊎ HasBelow graph levels node new
has_more graph levels node from next old new is e so_far = elim (cases_lt (value_at levels next) old) [
  | inl less ↦ inr (next, is.step, omega arith)
  | inr more ↦ elim so_far [
    | inl none ↦ inl (omega arith)
    | inr (after, leads, low) ↦ inr (after, leads, omega arith)
  ]
]

pub steps-preserved : goal.steps-preserved
steps-preserved c =
    let i = c.steps.invariant.so_far in
    let v = c.value_of.ensures in
    let m = c.min-least.ensures in
    let next = c.in-Some.ensures.next in
    let past = c.in-Some.ensures.past in
    let graph = c.args.graph.now in
    let levels = c.args.levels.now in
    let is : c.min-least.result ≡ min c.steps.least (value_at levels c.in-Some.next) = m ∙ ap (λ (n : ℕ). min c.steps.least n) v in
    record {
      stands = c.in-Some.ensures.stands;
      so_far = (
        subst (λ (from : ℕ). IsLowest graph levels c.args.node from c.min-least.result) (sym past) (low_more graph levels c.args.node c.steps.cursor.from c.in-Some.next c.steps.least c.min-least.result next (omega arith) (omega arith) i.0),
        has_more graph levels c.args.node c.steps.cursor.from c.in-Some.next c.steps.least c.min-least.result next is i.1,
      );
    }
