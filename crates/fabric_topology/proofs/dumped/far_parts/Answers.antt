use Rattle.std.proofs.Common.{refl}
use Rattle.fabric_topology.specs.Dumped.{far_parts}
use Rattle.fabric_topology.proofs.dumped.far_parts.Goals as goal

pub returns : goal.returns
unfolding far_parts
returns c = rw (c.in_ok-both.ensures, c.in_ok-front.ensures, c.in_ok-heads.ensures) refl
