-- Ranks by what nodes lead to.
use Rattle.std.proofs.Common.{◌≡◌, ◌+◌, ◌<◌, ◌≤◌, ◌⊎◌, ℕ, List, Some, None, ap, sym, arith, inl, inr, ◌∙◌, max}
use Rattle.std.specs.Prelude.{slice_get}
use Rattle.std.proofs.lemmas.Bool.{cases_lt}
use Rattle.std.proofs.lemmas.Option.{same_Some}
use Rattle.common_graph.specs.Graph.{GraphOf, LeadsTo, IsNext, HasNoNext}
use Rattle.common_graph.specs.Cycles.{IsRank}
use Rattle.common_graph.specs.Search.{IsHeight, IsRanked}

-- what a node leads to below the next one is below the last
pub before_next : (graph : GraphOf) (node from next after : ℕ) → IsNext graph node from next → after < next + 1 → LeadsTo graph node after → (after ≡ next) ⊎ (after < from)
before_next graph node from next after is low leads = elim (cases_lt after from) [
  | inl less ↦ inr less
  | inr more ↦ (let le = is.least after more leads in inl (omega arith))
]

pub height_more : (graph : GraphOf) (ranks : List ℕ) (node from next own lower new : ℕ) → IsNext graph node from next → slice_get ranks next ≡ Some lower → IsHeight graph ranks node from own → new ≡ max own (lower + 1) → IsHeight graph ranks node (next + 1) new
height_more graph ranks node from next own lower new is has so_far e = record {
  above = λ after low leads. elim (before_next graph node from next after is low leads) [
    | inl same ↦ (lower, ap (slice_get ranks) same ∙ has, omega arith)
    | inr before ↦ (let h = so_far.above after before leads in let lt = h.2 in (h.0, h.1, omega arith))
  ];
  next = elim (cases_lt own (lower + 1)) [
    | inl less ↦ inr (next, lower, is.step, has, omega arith)
    | inr more ↦ elim so_far.next [
      | inl zero ↦ inl (omega arith)
      | inr (after, low, leads, rank, one) ↦ inr (after, low, leads, rank, omega arith)
    ]
  ];
}

pub height_rank : (graph : GraphOf) (ranks : List ℕ) (node from own : ℕ) → HasNoNext graph node from → IsHeight graph ranks node from own → IsRank (LeadsTo graph) (slice_get ranks) node own
height_rank graph ranks node from own none height = record {
  above = λ after leads. elim (cases_lt after from) [
    | inl less ↦ height.above after less leads
    | inr more ↦ absurd (none after more leads)
  ];
  next = height.next;
}

-- a node has one rank
pub one_height : (graph : GraphOf) (ranks : List ℕ) (node own other : ℕ) → IsRank (LeadsTo graph) (slice_get ranks) node own → IsRank (LeadsTo graph) (slice_get ranks) node other → own ≤ other
one_height graph ranks node own other is too = elim is.next [
  | inl zero ↦ omega arith
  | inr (after, lower, leads, rank, one) ↦ (
      let over = too.above after leads in
      let same = same_Some lower over.0 (sym rank ∙ over.1) in
      let less = over.2 in
      omega arith)
]

-- where it leads to one without a rank it has none
pub not_ranked : (graph : GraphOf) (ranks : List ℕ) (node next : ℕ) → LeadsTo graph node next → slice_get ranks next ≡ None → IsRanked graph ranks node → ⊥
not_ranked graph ranks node next leads none (own, has, is) = absurd (let over = is.above next leads in let some = over.1 in cc)
