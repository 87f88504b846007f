use Rattle.switch_game.proofs.Laws.{agrees, later, left, plays}
use Rattle.switch_game.proofs.law.switches_play_the_game.Goals as goal

pub returns-clause-plays : goal.returns-clause-plays
returns-clause-plays c = plays

pub returns-clause-agrees : goal.returns-clause-agrees
returns-clause-agrees c = agrees

pub returns-clause-later : goal.returns-clause-later
returns-clause-later c = later

pub returns-clause-left : goal.returns-clause-left
returns-clause-left c = left
