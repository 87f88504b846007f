use Rattle.link_settling.proofs.Steps.{ack_counts, ack_nothing, ack_others}
use Rattle.link_settling.proofs.session_laws.an_acknowledgement_works_in_its_session.Goals as goal

pub returns-clause-counts : goal.returns-clause-counts
returns-clause-counts c = ack_counts

pub returns-clause-nothing : goal.returns-clause-nothing
returns-clause-nothing c = ack_nothing

pub returns-clause-others : goal.returns-clause-others
returns-clause-others c = ack_others
