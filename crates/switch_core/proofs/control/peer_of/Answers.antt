use Rattle.std.proofs.Common.{◌∙◌, sym, ap, Some}
use Rattle.std.proofs.lemmas.List.{drop_all}
use Rattle.switch_core.specs.Steps.{peer_among}
use Rattle.switch_core.proofs.PeerLemmas.{peer_here, peer_later}
use Rattle.switch_core.proofs.control.peer_of.Goals as goal

pub returns-then-port-clause-peer : goal.returns-then-port-clause-peer
returns-then-port-clause-peer c =
    let items = c.as_slice-link-items.result.now in
    ap Some c.peer.ensures
    ∙ sym (ap (λ ls. peer_among ls c.args.port) (sym c.as_slice-link-items.ensures.all) ∙ c.links.invariant
    ∙ peer_here items c.links.link-index c.args.port c.link-item.result c.links-test.true c.link-item.is (sym c.port.ensures.port ∙ c.if-port.true))

pub links-preserved : goal.links-preserved
links-preserved c =
    c.links.invariant ∙ peer_later c.as_slice-link-items.result.now c.links.link-index c.args.port c.link-item.result c.links-test.true c.link-item.is (λ same. c.if-port.false (c.port.ensures.port ∙ same))

pub returns-clause-peer : goal.returns-clause-peer
returns-clause-peer c =
    sym (ap (λ ls. peer_among ls c.args.port) (sym c.as_slice-link-items.ensures.all) ∙ c.links.invariant
    ∙ ap (λ ls. peer_among ls c.args.port) (drop_all c.links.link-index c.as_slice-link-items.result.now c.links-test.false))
