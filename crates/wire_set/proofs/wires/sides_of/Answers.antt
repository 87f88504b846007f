use Rattle.wire_set.proofs.WireLemmas.{sides_more, far_more, side_made}
use Rattle.wire_set.proofs.wires.sides_of.Goals as goal

pub places-preserved : goal.places-preserved
places-preserved c = record {
  sides = sides_more c.args.wiring.now _ _ c.places.at _ c.places.invariant.sides c.in_ok-push.ensures.items (side_made c.args.wiring.now c.places.at c.far-far.result c.is_some.result c.is_some.ensures c.far-far.ensures.far);
  far = far_more c.args.wiring.now c.places.at _ c.far-far.ensures.far c.far-far.ensures.range c.places.invariant.far;
}
