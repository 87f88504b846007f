use Rattle.std.proofs.Common.{◌≡◌, ◌∙◌, ◌+◌, ◌-◌, ◌≤◌, ℕ, None, ap, subst, refl, true, false, arith}
use Rattle.std.specs.Prelude.{replicate}
use Rattle.updown.specs.Order.{place_at}
use Rattle.table_build.proofs.PassLemmas.{AreBestAt, knows_below, none_lower, one_more, all_known}
use Rattle.table_build.proofs.best.climbs_of.Goals as goal

pub places-init : goal.places-init
places-init c =
    let is = c.in_ok-bests.ensures ∙ ap (λ (n : ℕ). replicate n None) c.count.ensures.count in (
      none_lower c.args.graph.now c.args.any c.args.order.now c.behind_last-i.result c.args.from c.in_ok-bests.bests.items c.count.ensures.graph c.requires.order c.requires.from c.behind_last-i.ensures.behind is,
      c.behind_last-i.ensures.within,
    )

pub climb_to-best-requires-clause-knows : goal.climb_to-best-requires-clause-knows
climb_to-best-requires-clause-knows c =
    let i = c.places.i - 1 in
    let next : c.places.i ≡ i + 1 = omega arith in
    let order = c.args.order.now in
    let so_far = subst (λ (n : ℕ). AreBestAt c.args.graph.now c.args.any true false c.args.from order (λ k. n ≤ k) c.places.bests.items) next c.places.invariant.0 in
    rw c.deref.ensures.value (knows_below c.args.graph.now c.args.from c.args.any order i (place_at order i) c.places.bests.items c.count.ensures.graph c.requires.order (omega arith) refl so_far)

pub places-preserved : goal.places-preserved
places-preserved c =
    let i = c.places.i - 1 in
    let order = c.args.order.now in
    rw c.from-in-places.ensures (
      one_more c.args.graph.now c.args.any true false c.args.from order (λ k. c.places.i ≤ k) (λ k. i ≤ k) i (place_at order i) c.places.bests.items c.climb_to-best.result c.requires.order (omega arith) refl (λ k new other. omega arith) c.places.invariant.0 c.climb_to-best.ensures,
      omega arith,
    )

pub returns : goal.returns
returns c = all_known c.args.graph.now c.args.any true false c.args.from c.args.order.now (λ k. c.places.i ≤ k) c.places.bests.items c.requires.order (λ k low. omega arith) c.places.invariant.0
