use Rattle.switch_core.proofs.LawLemmas.{ack_lower, carry_lower}
use Rattle.switch_core.proofs.law.a_frame_of_a_lower_epoch_changes_nothing.Goals as goal

pub returns-clause-body : goal.returns-clause-body
returns-clause-body c = carry_lower

pub returns-clause-acknowledgement : goal.returns-clause-acknowledgement
returns-clause-acknowledgement c = ack_lower
