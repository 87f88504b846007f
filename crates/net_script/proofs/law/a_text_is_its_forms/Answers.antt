use Rattle.net_script.proofs.TextFormLemmas.{text_is_forms}
use Rattle.net_script.proofs.law.a_text_is_its_forms.Goals as goal

pub returns : goal.returns
returns c = text_is_forms
