use Rattle.switch_core.proofs.LawLemmas.{ack_uncounted, carry_uncounted}
use Rattle.switch_core.proofs.law.an_uncounted_frame_changes_nothing.Goals as goal

pub returns-clause-body : goal.returns-clause-body
returns-clause-body c = carry_uncounted

pub returns-clause-acknowledgement : goal.returns-clause-acknowledgement
returns-clause-acknowledgement c = ack_uncounted
