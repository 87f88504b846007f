use Rattle.epoch_game.proofs.GameLemmas.{is_detected_in}
use Rattle.epoch_game.proofs.law.termination_is_detected.Goals as goal

pub returns : goal.returns
returns c = is_detected_in
