use Rattle.link_settling.proofs.Steps.{clock_same, clock_fresh, clock_joins}
use Rattle.link_settling.proofs.session_laws.a_clock_works_in_each_session.Goals as goal

pub returns-clause-again : goal.returns-clause-again
returns-clause-again c = clock_same

pub returns-clause-fresh : goal.returns-clause-fresh
returns-clause-fresh c = clock_fresh

pub returns-clause-anew : goal.returns-clause-anew
returns-clause-anew c = clock_joins
