use Rattle.epoch_game.proofs.FinishLemmas.{one_root}
use Rattle.epoch_game.proofs.law.stable_roots_share_no_life.Goals as goal

pub returns : goal.returns
returns c = one_root
