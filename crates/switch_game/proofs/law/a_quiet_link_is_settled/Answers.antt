use Rattle.switch_game.proofs.Laws.{settled}
use Rattle.switch_game.proofs.law.a_quiet_link_is_settled.Goals as goal

pub returns : goal.returns
returns c = settled
