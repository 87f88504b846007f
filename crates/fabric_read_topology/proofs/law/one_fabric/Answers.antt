use Rattle.fabric_read_topology.proofs.LawLemmas.{one_text}
use Rattle.fabric_read_topology.proofs.law.one_fabric.Goals as goal

pub returns : goal.returns
returns c = one_text
