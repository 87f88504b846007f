use Rattle.std.proofs.Common.{◌∙◌, ap, arith, None, Some, get_or, set, map, ℕ, Option, List}
use Rattle.tree_position.specs.declared.offers.Offer.{Offer}
use Rattle.tree_position.specs.Position.{OffersOf, noted}
use Rattle.tree_position.proofs.LeastLemmas.{noted_is}
use Rattle.tree_position.proofs.offers.Offers.note.Goals as goal

pub returns : goal.returns
returns c =
    let made : List (Option Offer) → OffersOf = λ offered. record { me = c.self.inside.me; links = c.self.inside.links; offered = offered } in
    let offer : Offer = record { root = c.args.root; level = c.args.level } in
    let now : OffersOf → OffersOf = λ o. record { me = o.me; links = o.links; offered = noted o.links o.offered c.args.port offer } in
    ap (λ (n : ℕ). made (map (λ k. get_or (set c.self.inside.offers n (Some offer)) k.port None) c.self.inside.links)) c.from.ensures
    ∙ ap made (noted_is c.self.inside.links c.self.inside.offers c.args.port offer (omega arith))
    ∙ ap now c.self.view_is
