use Rattle.fabric_read_topology.proofs.LawLemmas.{no_fault}
use Rattle.fabric_read_topology.proofs.law.no_fault_in_text.Goals as goal

pub returns : goal.returns
returns c = no_fault
