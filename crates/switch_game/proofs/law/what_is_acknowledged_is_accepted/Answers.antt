use Rattle.switch_game.proofs.Laws.{delivered, delivered_some}
use Rattle.switch_game.proofs.law.what_is_acknowledged_is_accepted.Goals as goal

pub returns-clause-some : goal.returns-clause-some
returns-clause-some c = delivered_some

pub returns-clause-all : goal.returns-clause-all
returns-clause-all c = delivered
