use Rattle.broadcast_flood.proofs.ChildLemmas.{ArePortsBelow}
use Rattle.broadcast_flood.proofs.children.child_ports.Given as goal

-- the ports to children among those so far
abbrev pub invariant-ports : goal.invariant-ports
invariant-ports l = ArePortsBelow l.graph l.x l.port l.ports
