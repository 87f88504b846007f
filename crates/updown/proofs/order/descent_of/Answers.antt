use Rattle.std.proofs.Common.{◌∙◌, sym}
use Rattle.updown.proofs.OrderLemmas.{sorted_descent}
use Rattle.updown.proofs.order.descent_of.Goals as goal

pub returns : goal.returns
returns c =
    let old = c.in_ok-heights.heights in
    let new = c.sort_unstable.new.self in
    rw c.of.ensures (sorted_descent c.args.graph.now old.items new.items c.in_ok-heights.ensures.graph c.in_ok-heights.ensures.heights c.sort_unstable.ensures.permutation (sym new.ok.0 ∙ c.sort_unstable.ensures.len ∙ old.ok.0) c.sort_unstable.ensures.sorted)
