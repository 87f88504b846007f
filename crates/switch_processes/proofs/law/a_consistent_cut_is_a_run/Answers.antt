use Rattle.switch_processes.proofs.Moments.{cut_has_no_cycle, cut_run}
use Rattle.switch_processes.proofs.Ordered.{passes}
use Rattle.switch_processes.proofs.law.a_consistent_cut_is_a_run.Goals as goal

pub returns-clause-run : goal.returns-clause-run
returns-clause-run c = cut_run

pub returns-clause-no_cycle : goal.returns-clause-no_cycle
returns-clause-no_cycle c = cut_has_no_cycle

pub returns-clause-passed : goal.returns-clause-passed
returns-clause-passed c = passes
