use Rattle.net_script.proofs.TextLemmas.{one_fault}
use Rattle.net_script.proofs.law.one_fault.Goals as goal

pub returns : goal.returns
returns c = one_fault
