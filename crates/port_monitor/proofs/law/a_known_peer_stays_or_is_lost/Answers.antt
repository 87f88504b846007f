use Rattle.port_monitor.proofs.RowLemmas.{peer_stays}
use Rattle.port_monitor.proofs.law.a_known_peer_stays_or_is_lost.Goals as goal

pub returns : goal.returns
returns c = peer_stays
