use Rattle.switch_core.proofs.LawLemmas.{ack_elsewhere, ack_only, ack_other}
use Rattle.switch_core.proofs.law.an_acknowledgement_never_makes_it_join.Goals as goal

pub returns-clause-rest : goal.returns-clause-rest
returns-clause-rest c = ack_only

pub returns-clause-other_ports : goal.returns-clause-other_ports
returns-clause-other_ports c = ack_elsewhere

pub returns-clause-other_epoch : goal.returns-clause-other_epoch
returns-clause-other_epoch c = ack_other
