use Rattle.epoch_core.proofs.LawLemmas.{version-moves}
use Rattle.epoch_core.proofs.law.version_counts_changes.Goals as goal

pub returns : goal.returns
returns c = version-moves
