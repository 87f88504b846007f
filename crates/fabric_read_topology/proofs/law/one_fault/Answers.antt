use Rattle.fabric_read_topology.proofs.LawLemmas.{one_first_fault}
use Rattle.fabric_read_topology.proofs.law.one_fault.Goals as goal

pub returns : goal.returns
returns c = one_first_fault
