use Rattle.std.proofs.Common.{ap, Some}
use Rattle.fabric_topology.specs.declared.fact.Line.{Line}
use Rattle.fabric_topology.specs.Discovered.{switch_port}
use Rattle.fabric_topology.proofs.discovered.switch_port.Goals as goal

pub returns : goal.returns
unfolding switch_port
returns c = rw (← c.in_ok-port.ensures, c.in_ok-other.ensures, ← c.in_ok-base.ensures, ← c.guid.ensures) (ap (λ (line : Line). Some line) c.of_two.ensures)
