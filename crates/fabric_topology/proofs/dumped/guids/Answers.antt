use Rattle.std.proofs.Common.{refl}
use Rattle.fabric_topology.specs.Dumped.{guids}
use Rattle.fabric_topology.proofs.dumped.guids.Goals as goal

pub returns : goal.returns
unfolding guids
returns c = rw (c.in_ok-_front.ensures, c.in_ok-node.ensures, c.in_ok-rest.ensures, c.in_ok-port.ensures) refl
