use Rattle.epoch_game.proofs.GameLemmas.{joined_lives, members_run}
use Rattle.epoch_game.proofs.law.a_run_is_of_those_that_join.Goals as goal

pub returns-clause-members : goal.returns-clause-members
returns-clause-members c = members_run

pub returns-clause-lives : goal.returns-clause-lives
returns-clause-lives c = joined_lives
