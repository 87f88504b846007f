use Rattle.check_text.proofs.OwnLaw.{own_tables_pass}
use Rattle.check_text.proofs.law.what_is_expected_passes.Goals as goal

pub returns : goal.returns
returns c = own_tables_pass
