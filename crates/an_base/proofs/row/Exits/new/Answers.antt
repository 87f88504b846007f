use Rattle.an_base.proofs.PortSetLemmas.{no_ports, none_alone}
use Rattle.an_base.proofs.row.Exits.new.Goals as goal

pub invariant_of-result : goal.invariant_of-result
invariant_of-result c = none_alone

pub returns : goal.returns
returns c = no_ports
