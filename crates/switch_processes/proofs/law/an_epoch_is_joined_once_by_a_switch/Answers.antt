use Rattle.switch_processes.proofs.Switches.{few_join, lives_join}
use Rattle.switch_processes.proofs.law.an_epoch_is_joined_once_by_a_switch.Goals as goal

pub returns-clause-lives : goal.returns-clause-lives
returns-clause-lives c = lives_join

pub returns-clause-once : goal.returns-clause-once
returns-clause-once c = few_join
