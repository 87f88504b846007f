use Rattle.link_settling.proofs.Steps.{carry_same, carry_greater}
use Rattle.link_settling.proofs.session_laws.a_body_works_in_each_session.Goals as goal

pub returns-clause-same : goal.returns-clause-same
returns-clause-same c = carry_same

pub returns-clause-greater : goal.returns-clause-greater
returns-clause-greater c = carry_greater
