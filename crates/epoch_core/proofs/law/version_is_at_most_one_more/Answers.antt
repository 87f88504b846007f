use Rattle.epoch_core.proofs.LawLemmas.{version-length}
use Rattle.epoch_core.proofs.law.version_is_at_most_one_more.Goals as goal

pub returns : goal.returns
returns c = version-length
