use Rattle.std.proofs.Common.{◌∙◌, ap, arith, None, get_or, ℕ}
use Rattle.std.proofs.lemmas.List.{get_or_default}
use Rattle.tree_position.specs.Position.{self_root, candidate}
use Rattle.tree_position.proofs.LeastLemmas.{least_more}
use Rattle.tree_position.proofs.offers.Offers.best.Goals as goal

pub links-preserved : goal.links-preserved
links-preserved c =
    let offers = c.self.inside.offers in
    let links = c.as_slice-link-items.result.now in
    let at = c.from.ensures ∙ c.port.ensures.port in
    let offer = ap (λ (n : ℕ). get_or offers n c.index-self-from.result) at ∙ get_or_default offers c.link-item.result.port c.index-self-from.result None (omega (arith, c.port.ensures.most)) in
    least_more (self_root c.self.inside.me) c.links.best c.lesser_of-best.result links (λ k. get_or offers k.port None) c.links.link-index c.link-item.result _ (omega arith) c.link-item.is c.links.invariant (c.position_below.ensures ∙ ap (candidate c.link-item.result) offer) c.lesser_of-best.ensures
