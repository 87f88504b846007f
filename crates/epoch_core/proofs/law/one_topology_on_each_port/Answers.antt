use Rattle.epoch_core.proofs.LawLemmas.{one_topo}
use Rattle.epoch_core.proofs.law.one_topology_on_each_port.Goals as goal

pub returns : goal.returns
returns c = one_topo
