use Rattle.port_monitor.proofs.RowLemmas.{new_peer_answered}
use Rattle.port_monitor.proofs.law.a_peer_answered_in_a_row.Goals as goal

pub returns : goal.returns
returns c = new_peer_answered
