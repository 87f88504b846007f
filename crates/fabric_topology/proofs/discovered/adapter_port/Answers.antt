use Rattle.std.proofs.Common.{ap, Some}
use Rattle.fabric_topology.specs.declared.fact.Line.{Line}
use Rattle.fabric_topology.specs.Discovered.{adapter_port}
use Rattle.fabric_topology.proofs.discovered.adapter_port.Goals as goal

pub returns : goal.returns
unfolding adapter_port
returns c = rw (← c.in_ok-guid.ensures, c.in_ok-other.ensures, ← c.in_ok-base.ensures, ← c.in_ok-far_base.ensures, ← c.guid.ensures) (ap (λ (line : Line). Some line) c.of_three.ensures)
