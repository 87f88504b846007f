use Rattle.std.proofs.Common.{◌∙◌, ◌+◌, ◌≤◌, ◌++◌, sym, ap, subst, All, length, take, List, Option, arith}
use Rattle.an_base.specs.Values.{EndId, PeerAt}
use Rattle.port_monitor.specs.Ports.{link_to, links_from}
use Rattle.port_monitor.proofs.LinkLemmas.{links_more, below_more, few_more}
use Rattle.port_monitor.proofs.monitor.links_of.Goals as goal

pub ports-preserved : goal.ports-preserved
ports-preserved c =
    let after = c.push_link.ensures in
    record {
      said = after
          ∙ ap (λ (l : List PeerAt). l ++ link_to (c.ports.i + 1) c.good_peer.result) c.ports.invariant.said
          ∙ ap (λ (o : Option EndId). links_from 1 (take c.ports.i c.args.ports.now) ++ link_to (c.ports.i + 1) o) c.good_peer.ensures
          ∙ sym (links_more c.args.ports.now c.ports.i c.index-ports-i.result (omega arith));
      below = subst (λ (l : List PeerAt). All (λ k. k.port ≤ c.ports.i + 1) l) (sym after) (below_more c.ports.links c.ports.i c.good_peer.result c.ports.invariant.below);
      few = subst (λ (l : List PeerAt). length l ≤ c.ports.i + 1) (sym after) (few_more c.ports.links c.ports.i c.good_peer.result c.ports.invariant.few);
    }
