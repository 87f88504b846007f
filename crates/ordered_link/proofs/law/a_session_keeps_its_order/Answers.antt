use Rattle.ordered_link.specs.Session.{start}
use Rattle.ordered_link.proofs.SessionLemmas.{sound_run, sound_start}
use Rattle.ordered_link.proofs.law.a_session_keeps_its_order.Goals as goal

pub returns-clause-order : goal.returns-clause-order
returns-clause-order c events = (sound_run events start sound_start).order

pub returns-clause-acknowledged : goal.returns-clause-acknowledged
returns-clause-acknowledged c events = (sound_run events start sound_start).acked
