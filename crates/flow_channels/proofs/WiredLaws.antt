-- The channels of a topology.
use Rattle.std.proofs.Common.{◌≡◌, ℕ, ◌≤◌, List, None, arith, length, inl, inr}
use Rattle.an_base.specs.Values.{EntryOf}
use Rattle.an_base.specs.Rows.{RowOf}
use Rattle.an_base.specs.Numbers.{AreNumbers}
use Rattle.topo_graph.specs.Topology.{IsGraph}
use Rattle.dep_check.specs.Channels.{far_at}
use Rattle.dep_check.proofs.SpotLemmas.{option_cases}
use Rattle.dep_check.proofs.BridgeLemmas.{number_low}
use Rattle.dep_check.proofs.WireLemmas.{by_far, far_at_back, far_spot}
use Rattle.flow_channels.specs.Layout.{spot, layout_of, IsWired}

module _ (es : List EntryOf) (numbers : List ℕ) (graph : IsGraph es) (named : AreNumbers numbers) (count : length numbers ≡ length es) where
  start : (at : ℕ) → far_at es numbers (spot at 0) ≡ None
  start at = elim (option_cases (far_at es numbers (spot at 0))) [
    | inl none ↦ none
    | inr (end, e) ↦ (
        let by = by_far es numbers graph (spot at 0) end e in
        let least = (graph.within by.0 0 (by.1, end.port) by.3).port_least in
        absurd (omega arith))
  ]

  pub wired : (rows : List RowOf) (most : ℕ) → 1 ≤ most → IsWired (layout_of es numbers rows most)
  wired rows most some = record {
    near = λ c end e. far_spot es numbers c end graph named e;
    back = λ c end e. far_at_back es numbers graph named count c end e;
    start = start;
    low = λ at has. number_low numbers at named has;
    room = some;
  }
