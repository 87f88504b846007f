use Rattle.std.proofs.Common.{ap, Some}
use Rattle.fabric_topology.specs.declared.fact.Line.{Line}
use Rattle.fabric_topology.specs.Plain.{plain_link}
use Rattle.fabric_topology.proofs.plain.plain_link.Goals as goal

pub returns : goal.returns
unfolding plain_link
returns c = rw (c.in_ok-one.ensures, c.in_ok-port.ensures, c.in_ok-other.ensures, ← c.in_ok-far_port.ensures) (ap (λ (line : Line). Some line) c.of_three.ensures)
