use Rattle.net_script.proofs.TextLemmas.{one_text}
use Rattle.net_script.proofs.law.one_script.Goals as goal

pub returns : goal.returns
returns c = one_text
