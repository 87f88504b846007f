use Rattle.epoch_game.proofs.DeliveredLemmas.{has_ended}
use Rattle.epoch_game.proofs.law.a_delivered_component_has_finished.Goals as goal

pub returns : goal.returns
returns c = has_ended
