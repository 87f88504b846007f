use Rattle.link_settling.proofs.MovesRun.{run_of_moves}
use Rattle.link_settling.proofs.Later.{later_run}
use Rattle.link_settling.proofs.session_laws.what_is_sent_is_a_run.Goals as goal

pub returns-clause-sent : goal.returns-clause-sent
returns-clause-sent c = run_of_moves

pub returns-clause-later : goal.returns-clause-later
returns-clause-later c = later_run
