use Rattle.switch_processes.proofs.Moments.{made_cut, no_cycle}
use Rattle.switch_processes.proofs.law.events_have_times.Goals as goal

pub returns-clause-no_cycle : goal.returns-clause-no_cycle
returns-clause-no_cycle c = no_cycle

pub returns-clause-cut : goal.returns-clause-cut
returns-clause-cut c = made_cut
