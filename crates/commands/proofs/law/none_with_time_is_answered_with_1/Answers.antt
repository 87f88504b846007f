use Rattle.commands.proofs.InTimeLemmas.{replay_is_late, run_is_late}
use Rattle.commands.proofs.law.none_with_time_is_answered_with_1.Goals as goal

pub returns-clause-run : goal.returns-clause-run
returns-clause-run c = run_is_late

pub returns-clause-replay : goal.returns-clause-replay
returns-clause-replay c = replay_is_late
