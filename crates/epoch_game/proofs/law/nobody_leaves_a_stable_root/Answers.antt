use Rattle.epoch_game.proofs.LeavingLemmas.{nobody_leaves_it}
use Rattle.epoch_game.proofs.law.nobody_leaves_a_stable_root.Goals as goal

pub returns : goal.returns
returns c = nobody_leaves_it
