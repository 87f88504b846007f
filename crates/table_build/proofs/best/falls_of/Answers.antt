use Rattle.std.proofs.Common.{◌∙◌, ◌+◌, ◌<◌, ℕ, List, Option, None, Bool, false, ap, refl, sym, subst, length, inl, inr, arith}
use Rattle.std.specs.Prelude.{replicate}
use Rattle.std.proofs.lemmas.Bool.{cases_Bool}
use Rattle.std.proofs.lemmas.List.{length-replicate}
use Rattle.updown.specs.Order.{place_at}
use Rattle.table_build.specs.declared.best.Best.{Best}
use Rattle.table_build.specs.Bests.{AreBestTo}
use Rattle.table_build.proofs.PassLemmas.{AreBestAt, knows_above, none_higher, one_more, all_known}
use Rattle.table_build.proofs.best.falls_of.Goals as goal

pub places-init : goal.places-init
places-init c =
    let search = c.args.search in
    let start = c.first_below-i in
    let bests = c.in_ok-bests.bests.items in
    let is = c.in_ok-bests.ensures ∙ ap (λ (n : ℕ). replicate n None) c.count.ensures.count in
    elim (cases_Bool search.up) [
      | inl up ↦ (
          let first = start.ensures.all up in
          record {
            count = ap (λ (bs : List (Option Best)). length bs) is ∙ length-replicate (length c.args.graph.now) None;
            each = λ k less below. absurd (omega arith);
          })
      | inr not_up ↦ (
          subst (λ (u : Bool). AreBestAt c.args.graph.now search.any u search.down search.from c.args.order.now (λ k. k < start.result) bests) (sym not_up) (
          subst (λ (d : Bool). AreBestAt c.args.graph.now search.any false d search.from c.args.order.now (λ k. k < start.result) bests) (sym c.requires.down) (
          none_higher c.args.graph.now search.any c.args.order.now start.result search.from bests c.count.ensures.graph c.requires.order c.requires.from (start.ensures.before not_up) is)))
    ]

pub fall_to-best-requires-clause-knows : goal.fall_to-best-requires-clause-knows
fall_to-best-requires-clause-knows c =
    let i = c.places.i in
    let order = c.args.order.now in
    rw c.deref.ensures.value (knows_above c.args.graph.now c.args.search order i (place_at order i) c.places.bests.items c.count.ensures.graph c.requires.order (omega arith) refl c.places.invariant)

pub places-preserved : goal.places-preserved
places-preserved c =
    let i = c.places.i in
    let search = c.args.search in
    let order = c.args.order.now in
    rw c.from-in-places.ensures (one_more c.args.graph.now search.any search.up search.down search.from order (λ k. k < i) (λ k. k < i + 1) i (place_at order i) c.places.bests.items c.fall_to-best.result c.requires.order (omega arith) refl (λ k new other. omega arith) c.places.invariant c.fall_to-best.ensures)

pub returns : goal.returns
returns c =
    let search = c.args.search in
    subst (λ (d : Bool). AreBestTo c.args.graph.now search.any search.up d search.from c.places.bests.items) c.requires.down
    (all_known c.args.graph.now search.any search.up search.down search.from c.args.order.now (λ k. k < c.places.i) c.places.bests.items c.requires.order (λ k low. omega arith) c.places.invariant)
