use Rattle.std.proofs.Common.{arith}
use Rattle.updown.proofs.OrderLemmas.{one_height}
use Rattle.updown.proofs.order.heights_of.Goals as goal

pub places-preserved : goal.places-preserved
places-preserved c =
    rw c.in_ok-push.ensures.items (one_height c.args.graph.now c.places.place c.level-level.result c.places.heights.items c.places.invariant (omega arith) c.level-level.ensures.level)
