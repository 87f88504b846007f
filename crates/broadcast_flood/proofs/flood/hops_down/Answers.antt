use Rattle.std.proofs.Common.{◌≡◌, ◌∙◌, sym, ap, subst, ℕ, ◌<◌, List, [], arith, get_or, length, take}
use Rattle.std.proofs.lemmas.List.{get_or_default, take_all}
use Rattle.updown.specs.declared.order.Height.{Height}
use Rattle.updown.specs.Order.{IsDescent}
use Rattle.broadcast_flood.proofs.DownLemmas.{AreHopsOf, hops_more, all_down}
use Rattle.broadcast_flood.proofs.flood.hops_down.Goals as goal

pub heights-preserved : goal.heights-preserved
heights-preserved c =
    let es = c.args.graph.now in
    let children = c.args.children.now in
    let order = c.as_slice-height-items.result.now in
    let i = c.heights.height-index in
    let nowhere : Height = record { level = 0; place = 0 } in
    let h = get_or order i nowhere in
    let low : i < length order = omega arith in
    let descent = subst (λ (hs : List Height). IsDescent es hs) (sym c.as_slice-height-items.ensures) c.in_ok-descent.ensures in
    let few : h.place < length children = omega (arith, (descent.heights.each i nowhere low).0, c.requires.children.count) in
    let ports = c.as_slice.ensures.all ∙ c.index-children-from.is ∙ ap (λ (n : ℕ). get_or children n c.index-children-from.result) c.from.ensures ∙ get_or_default children h.place c.index-children-from.result [] few in
    hops_more es children order i h c.heights.hops.items c.push_hops.new.hops.items c.life.result c.as_slice.result.now low (get_or_default order i nowhere h low) c.heights.invariant c.life.ensures ports c.in_ok-push_hops.ensures

pub returns : goal.returns
returns c =
    let es = c.args.graph.now in
    let children = c.args.children.now in
    let order = c.as_slice-height-items.result.now in
    let all : take c.heights.height-index order ≡ order = take_all c.heights.height-index order (omega arith) in
    let descent = subst (λ (hs : List Height). IsDescent es hs) (sym c.as_slice-height-items.ensures) c.in_ok-descent.ensures in
    all_down es children order c.requires.graph c.requires.children descent c.heights.hops.items (subst (λ (hs : List Height). AreHopsOf es children hs c.heights.hops.items) all c.heights.invariant)
