use Rattle.net_graph.specs.Wires.{network}
use Rattle.net_graph.specs.Entry.{AreLinksBelow}
use Rattle.net_graph.proofs.tree.links_of.Given as goal

abbrev pub invariant-ports : goal.invariant-ports
invariant-ports l = AreLinksBelow (network l.wiring) l.x l.port l.links
