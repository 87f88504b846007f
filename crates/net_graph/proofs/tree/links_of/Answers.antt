use Rattle.std.proofs.Common.{◌≡◌, ℕ, subst, arith}
use Rattle.net_graph.specs.Wires.{network}
use Rattle.net_graph.specs.Entry.{AreLinksBelow}
use Rattle.net_graph.proofs.LinkLemmas.{no_links, all_links}
use Rattle.net_graph.proofs.tree.links_of.Goals as goal

pub ports-init : goal.ports-init
ports-init c = rw c.new-links.ensures (no_links c.args.wiring.now c.args.x c.requires)

pub returns : goal.returns
returns c =
    let all : c.ports.port ≡ 13 = omega arith in
    all_links c.args.wiring.now c.args.x c.ports.links c.requires (subst (λ (n : ℕ). AreLinksBelow (network c.args.wiring.now) c.args.x n c.ports.links) all c.ports.invariant)
