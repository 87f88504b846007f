use Rattle.broadcast_flood.proofs.ChildLemmas.{children_more}
use Rattle.broadcast_flood.proofs.children.children_of.Goals as goal

pub places-preserved : goal.places-preserved
places-preserved c =
    rw c.in_ok-push.ensures.items (children_more c.args.graph.now c.places.x c.places.children.items c.child_ports.result c.places.invariant c.child_ports.ensures)
