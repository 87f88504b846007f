use Rattle.std.proofs.Common.{ap, Some}
use Rattle.fabric_topology.specs.declared.fact.Line.{Line}
use Rattle.fabric_topology.specs.Plain.{plain_switch}
use Rattle.fabric_topology.proofs.plain.plain_switch.Goals as goal

pub returns : goal.returns
unfolding plain_switch
returns c = rw (c.in_ok-guid.ensures, c.in_ok-ports.ensures, c.in_ok-base.ensures, ← c.in_ok-lmc.ensures) (ap (λ (line : Line). Some line) c.of.ensures)
