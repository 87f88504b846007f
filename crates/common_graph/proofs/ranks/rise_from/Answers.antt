use Rattle.std.proofs.Common.{◌≤◌, ℕ, arith}
use Rattle.common_graph.specs.Graph.{FallFrom, value_at}
use Rattle.common_graph.specs.Search.{HasNoneWithin, IsFirstWithin, IsRiseFrom}
use Rattle.common_graph.proofs.OptionLemmas.{told_as}
use Rattle.common_graph.proofs.WithinLemmas.{fall_from, rise_from}
use Rattle.common_graph.proofs.ranks.rise_from.Goals as goal

pub returns : goal.returns
returns c =
    let graph = c.args.graph.now in
    let ranks = c.args.ranks.now in
    let node = c.args.node in
    let own = c.value_of.result in
    let is = c.value_of.ensures in
    let low : (other : ℕ) → value_at ranks other ≤ 4294967295 = (λ other. omega (arith, c.type_inv.ranks other)) in
    told_as (HasNoneWithin graph ranks node own 4294967295) (FallFrom graph ranks node) (IsFirstWithin graph ranks node own 4294967295) (IsRiseFrom graph ranks node) c.first_within.result
    (fall_from graph ranks node own is low)
    (rise_from graph ranks node own is low)
    c.first_within.ensures.first
