use Rattle.epoch_game.proofs.FinishLemmas.{is_detected}
use Rattle.epoch_game.proofs.law.a_stable_root_detects_the_end.Goals as goal

pub returns : goal.returns
returns c = is_detected
