use Rattle.std.proofs.Common.{◌∙◌, ap, map, None, List, Option, get_or}
use Rattle.std.specs.Prelude.{replicate}
use Rattle.an_base.specs.Values.{PeerAt}
use Rattle.tree_position.specs.declared.offers.Offer.{Offer}
use Rattle.tree_position.specs.Position.{OffersOf}
use Rattle.tree_position.proofs.LeastLemmas.{no_offers, none_at}
use Rattle.tree_position.proofs.offers.Offers.new.Goals as goal

pub returns : goal.returns
returns c =
    let f : PeerAt → Option Offer = λ l. get_or (replicate 13 None) l.port None in
    let made : List PeerAt → List (Option Offer) → OffersOf = λ links offered. record { me = c.args.me; links = links; offered = offered } in
    ap (λ (links : List PeerAt). made links (map f links)) c.copy.ensures ∙ ap (made c.args.links.now) (no_offers c.args.links.now f (λ k. none_at k.port))
