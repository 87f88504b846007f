use Rattle.std.proofs.Common.{ap, Some}
use Rattle.fabric_topology.specs.declared.fact.Line.{Line}
use Rattle.fabric_topology.specs.Plain.{plain_host}
use Rattle.fabric_topology.proofs.plain.plain_host.Goals as goal

pub returns : goal.returns
unfolding plain_host
returns c = rw (c.in_ok-guid.ensures, c.in_ok-base.ensures, c.in_ok-lmc.ensures, c.in_ok-switch.ensures, ← c.in_ok-port.ensures) (ap (λ (line : Line). Some line) c.of_three.ensures)
