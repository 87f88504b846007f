use Rattle.std.proofs.Common.{◌≡◌, ◌+◌, ◌-◌, ℕ, subst, refl, arith}
use Rattle.updown.specs.Order.{place_at}
use Rattle.updown.specs.Lengths.{AreDownSoFar}
use Rattle.updown.proofs.StepLemmas.{down_step}
use Rattle.updown.proofs.length.down_lengths.Goals as goal

pub places-preserved : goal.places-preserved
places-preserved c =
    let i = c.places.i - 1 in
    let next : c.places.i ≡ i + 1 = omega arith in
    let so_far = subst (λ (n : ℕ). AreDownSoFar c.args.graph.now c.args.to c.args.order.now c.places.down.items n) next c.places.invariant.0 in
    rw c.from.ensures (
      down_step c.args.graph.now c.args.to c.args.order.now c.places.down.items i (place_at c.args.order.now i) c.length_from-length.result c.count.ensures.graph c.requires (omega arith) refl so_far (rw c.deref.ensures.value at c.length_from-length.ensures),
      omega arith,
    )
