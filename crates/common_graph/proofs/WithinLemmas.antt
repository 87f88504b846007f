-- The first of the nodes to which one leads that has a value within bounds.
use Rattle.std.proofs.Common.{◌≡◌, ◌+◌, ◌-◌, ◌<◌, ◌≤◌, ◌⊎◌, ℕ, List, ap, arith, inl, inr}
use Rattle.std.proofs.lemmas.Bool.{cases_lt}
use Rattle.common_graph.specs.Graph.{GraphOf, LeadsTo, IsNext, HasNoNext, FallFrom, value_at}
use Rattle.common_graph.specs.Search.{FallsTo, HasNoneSoFar, HasNoneWithin, HasPeer, HoldsFrom, IsFirstWithin, IsRiseFrom}
use Rattle.common_graph.proofs.HeightLemmas.{before_next}

module _ (graph : GraphOf) (table : List ℕ) (node least most from : ℕ) (so_far : HasNoneSoFar graph table node least most from) where
  pub none_more : (next value end : ℕ) → IsNext graph node from next → value ≡ value_at table next → end ≡ next + 1 → ((least ≤ value) × (most < value)) ⊎ (value < least) → HasNoneSoFar graph table node least most end
  none_more next value end is e past out other low leads above below = elim (before_next graph node from next other is (omega arith) leads) [
    | inr before ↦ so_far other before leads above below
    | inl same ↦ (
        let v = ap (value_at table) same in
        elim out [
          | inl (over, far) ↦ omega arith
          | inr less ↦ omega arith
        ])
  ]

  pub none_within : HasNoNext graph node from → HasNoneWithin graph table node least most
  none_within none other leads above below = elim (cases_lt other from) [
    | inl less ↦ so_far other less leads above below
    | inr more ↦ none other more leads
  ]

  pub first_of : (next value : ℕ) → IsNext graph node from next → value ≡ value_at table next → least ≤ value → value ≤ most → IsFirstWithin graph table node least most next
  first_of next value is e above low = record {
    step = is.step;
    above = omega arith;
    low = omega arith;
    first = λ other leads over under. elim (cases_lt other from) [
      | inl less ↦ absurd (so_far other less leads over under)
      | inr more ↦ is.least other more leads
    ];
  }

module _ (graph : GraphOf) (table : List ℕ) (node own : ℕ) (is : own ≡ value_at table node) where
  -- a node that leads to none of a value below
  pub holds_from : (fall most : ℕ) → fall < own → most ≡ own - fall - 1 → HasNoneWithin graph table node 0 most → HoldsFrom graph table fall node
  holds_from fall most some e none next leads = elim (cases_lt most (value_at table next)) [
    | inl over ↦ omega arith
    | inr less ↦ absurd (none next leads (omega arith) less)
  ]

  pub holds_low : (fall : ℕ) → own ≤ fall → HoldsFrom graph table fall node
  holds_low fall low next leads = omega arith

  pub falls_to : (fall most : ℕ) → own < 4294967296 → fall < own → most ≡ own - fall - 1 → (next : ℕ) → IsFirstWithin graph table node 0 most next → FallsTo graph table fall node next
  falls_to fall most fits some e next first = let low = first.low in record {
    step = first.step;
    falls = omega arith;
    fits = omega arith;
  }

  -- of none that is not below, if no value is above the most
  pub fall_from : ((other : ℕ) → value_at table other ≤ 4294967295) → HasNoneWithin graph table node own 4294967295 → FallFrom graph table node
  fall_from low none next leads = elim (cases_lt (value_at table next) (value_at table node)) [
    | inl less ↦ less
    | inr more ↦ absurd (none next leads (omega arith) (low next))
  ]

  pub rise_from : ((other : ℕ) → value_at table other ≤ 4294967295) → (next : ℕ) → IsFirstWithin graph table node own 4294967295 next → IsRiseFrom graph table node next
  rise_from low next first = let above = first.above in record {
    step = first.step;
    rises = omega arith;
    lower = λ other less leads. elim (cases_lt (value_at table other) (value_at table node)) [
      | inl falls ↦ falls
      | inr more ↦ absurd (let le = first.first other leads (omega arith) (low other) in omega arith)
    ];
  }

  pub is_peer : (next : ℕ) → IsFirstWithin graph table node own own next → HasPeer graph table node
  is_peer next first = let above = first.above in let low = first.low in (next, first.step, omega arith)

  pub has_no_peer : HasNoneWithin graph table node own own → HasPeer graph table node → ⊥
  has_no_peer none (next, leads, same) = none next leads (omega arith) (omega arith)
