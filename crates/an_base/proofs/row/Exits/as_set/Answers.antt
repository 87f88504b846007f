use Rattle.an_base.proofs.PortSetLemmas.{bit_ports, ports_are}
use Rattle.an_base.proofs.row.Exits.as_set.Goals as goal

pub returns : goal.returns
returns c = rw (← c.self.view_is) (record { each = λ port. bit_ports c.self.inside.set port c.self.invariant; ports = ports_are c.self.inside.set })
