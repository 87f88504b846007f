use Rattle.net_script.proofs.TextLemmas.{no_fault}
use Rattle.net_script.proofs.law.no_fault_in_text.Goals as goal

pub returns : goal.returns
returns c = no_fault
