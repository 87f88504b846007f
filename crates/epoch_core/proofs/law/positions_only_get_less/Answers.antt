use Rattle.epoch_core.proofs.LessLemmas.{position-less}
use Rattle.epoch_core.proofs.law.positions_only_get_less.Goals as goal

pub returns : goal.returns
returns c = position-less
