use Rattle.std.proofs.Common.{◌∙◌, ◌∷◌, ◌++◌, [], ℕ, List, Option, None, ap, arith, length}
use Rattle.wire_set.proofs.ReachLemmas.{one_more}
use Rattle.wire_set.proofs.queue.reach.Goals as goal

pub places-preserved : goal.places-preserved
places-preserved c =
    let so_far = c.places.invariant in
    let old = c.args.next.now.items in
    record {
      least = omega (arith, so_far.least);
      most = omega (arith, c.places-test.true);
      size = (omega (arith, so_far.size.0, c.push_reserved.ensures.len), omega (arith, so_far.size.1, c.push_reserved-in-places.ensures.len));
      slips = c.push_reserved.ensures.items ∙ ap (λ (l : List (Option ℕ)). l ++ None ∷ []) so_far.slips ∙ one_more c.args.slips.now.items None c.places.counter (length old) so_far.least;
      next = c.push_reserved-in-places.ensures.items ∙ ap (λ (l : List ℕ). l ++ 0 ∷ []) so_far.next ∙ one_more old 0 c.places.counter (length old) so_far.least;
      room = (omega (arith, so_far.room.0, c.push_reserved.ensures.capacity), omega (arith, so_far.room.1, c.push_reserved-in-places.ensures.capacity));
    }
