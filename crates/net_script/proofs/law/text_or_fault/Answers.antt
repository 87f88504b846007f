use Rattle.net_script.proofs.TextLemmas.{text_or_fault}
use Rattle.net_script.proofs.law.text_or_fault.Goals as goal

pub returns : goal.returns
returns c = text_or_fault
