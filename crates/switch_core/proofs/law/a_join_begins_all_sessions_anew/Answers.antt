use Rattle.switch_core.proofs.LawLemmas.{joins_acked, joins_card, joins_epoch, joins_log, joins_nothing, joins_position, joins_pushed, joins_receivings, old_ack, old_carry}
use Rattle.switch_core.proofs.law.a_join_begins_all_sessions_anew.Goals as goal

pub returns-clause-epoch : goal.returns-clause-epoch
returns-clause-epoch c = joins_epoch

pub returns-clause-card : goal.returns-clause-card
returns-clause-card c = joins_card

pub returns-clause-accepted : goal.returns-clause-accepted
returns-clause-accepted c = joins_log

pub returns-clause-came : goal.returns-clause-came
returns-clause-came c = joins_receivings

pub returns-clause-acknowledged : goal.returns-clause-acknowledged
returns-clause-acknowledged c = joins_acked

pub returns-clause-pushed : goal.returns-clause-pushed
returns-clause-pushed c = joins_pushed

pub returns-clause-position : goal.returns-clause-position
returns-clause-position c = joins_position

pub returns-clause-nothing_else : goal.returns-clause-nothing_else
returns-clause-nothing_else c = joins_nothing

pub returns-clause-body : goal.returns-clause-body
returns-clause-body c = old_carry

pub returns-clause-acknowledgement : goal.returns-clause-acknowledgement
returns-clause-acknowledgement c = old_ack
