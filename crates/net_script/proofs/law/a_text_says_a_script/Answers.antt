use Rattle.net_script.proofs.ScriptKept.{text_kept}
use Rattle.net_script.proofs.law.a_text_says_a_script.Goals as goal

pub returns : goal.returns
returns c = text_kept
