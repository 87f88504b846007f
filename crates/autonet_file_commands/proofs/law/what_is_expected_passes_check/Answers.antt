use Rattle.autonet_file_commands.proofs.OwnLemmas.{own_passes}
use Rattle.autonet_file_commands.proofs.law.what_is_expected_passes_check.Goals as goal

pub returns : goal.returns
returns c = own_passes
