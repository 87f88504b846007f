use Rattle.std.proofs.Common.{refl, arith}
use Rattle.updown.specs.Order.{place_at}
use Rattle.updown.proofs.StepLemmas.{up_step}
use Rattle.updown.proofs.length.up_lengths.Goals as goal

pub places-preserved : goal.places-preserved
places-preserved c =
    rw c.from.ensures (up_step c.args.graph.now c.args.to c.args.order.now c.places.up.items c.args.down.now c.places.i (place_at c.args.order.now c.places.i) c.length_from-length.result c.count.ensures.graph c.requires.order (omega arith) refl c.requires.down c.places.invariant (rw c.deref.ensures.value at c.length_from-length.ensures))
