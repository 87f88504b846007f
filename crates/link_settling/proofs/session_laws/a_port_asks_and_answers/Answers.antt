use Rattle.link_settling.proofs.Asks.{clock_asks, probe_answered}
use Rattle.link_settling.proofs.session_laws.a_port_asks_and_answers.Goals as goal

pub returns-clause-asks : goal.returns-clause-asks
returns-clause-asks c = clock_asks

pub returns-clause-answers : goal.returns-clause-answers
returns-clause-answers c = probe_answered
