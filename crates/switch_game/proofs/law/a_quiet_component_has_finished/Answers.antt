use Rattle.switch_game.proofs.QuietLives.{has_settled}
use Rattle.switch_game.proofs.law.a_quiet_component_has_finished.Goals as goal

pub returns : goal.returns
returns c = has_settled
