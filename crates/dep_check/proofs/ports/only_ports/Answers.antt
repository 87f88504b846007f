use Rattle.dep_check.proofs.PortLemmas.{only_low, only_same}
use Rattle.dep_check.proofs.ports.only_ports.Goals as goal

pub returns : goal.returns
returns c = record { ports = only_low c.args.set; same = only_same c.args.set }
