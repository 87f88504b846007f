use Rattle.epoch_game.proofs.GameLemmas.{play_run, later_run}
use Rattle.epoch_game.proofs.law.each_epoch_is_a_run.Goals as goal

pub returns-clause-reached : goal.returns-clause-reached
returns-clause-reached c = play_run

pub returns-clause-later : goal.returns-clause-later
returns-clause-later c = later_run
