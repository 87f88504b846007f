use Rattle.fabric_read_topology.proofs.FitLemmas.{text_fits}
use Rattle.fabric_read_topology.proofs.law.a_text_is_of_a_fabric.Goals as goal

pub returns : goal.returns
returns c = text_fits
