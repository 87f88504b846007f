use Rattle.fabric_topology.specs.Dumped.{side}
use Rattle.fabric_topology.proofs.dumped.side.Goals as goal

pub returns : goal.returns
unfolding side
returns c = rw (c.in_ok-kind.ensures, c.in_ok-word.ensures, ← c.in_ok-ports.ensures, ← c.in_ok-guids.ensures, ← c.in_ok-at.ensures) c.told_by.ensures
