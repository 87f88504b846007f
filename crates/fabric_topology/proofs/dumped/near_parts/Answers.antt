use Rattle.std.proofs.Common.{refl}
use Rattle.fabric_topology.specs.Dumped.{near_parts}
use Rattle.fabric_topology.proofs.dumped.near_parts.Goals as goal

pub returns : goal.returns
unfolding near_parts
returns c = rw (c.in_ok-front.ensures, c.in_ok-head.ensures) refl
