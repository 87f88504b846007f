use Rattle.epoch_game.proofs.GameLemmas.{loaded_finished}
use Rattle.epoch_game.proofs.law.who_has_loaded_has_finished.Goals as goal

pub returns : goal.returns
returns c = loaded_finished
