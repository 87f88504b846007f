use Rattle.std.proofs.Common.{ap, Some}
use Rattle.fabric_topology.specs.declared.fact.Line.{Line}
use Rattle.fabric_topology.specs.Discovered.{switch_head}
use Rattle.fabric_topology.proofs.discovered.switch_head.Goals as goal

pub returns : goal.returns
unfolding switch_head
returns c = rw (c.in_ok-ports.ensures, c.in_ok-id.ensures, ← c.in_ok-guid.ensures, c.in_ok-_front.ensures, ← c.in_ok-base.ensures) (ap (λ (line : Line). Some line) c.of.ensures)
