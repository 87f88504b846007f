use Rattle.link_settling.proofs.Keeps.{keeps_clock, keeps_reply, keeps_other_reply, keeps_probe, keeps_carry, keeps_ack}
use Rattle.link_settling.proofs.session_laws.what_happens_at_the_ports.Goals as goal

pub returns-clause-clock : goal.returns-clause-clock
returns-clause-clock c = keeps_clock

pub returns-clause-reply : goal.returns-clause-reply
returns-clause-reply c = keeps_reply

pub returns-clause-other_reply : goal.returns-clause-other_reply
returns-clause-other_reply c = keeps_other_reply

pub returns-clause-probe : goal.returns-clause-probe
returns-clause-probe c = keeps_probe

pub returns-clause-body : goal.returns-clause-body
returns-clause-body c = keeps_carry

pub returns-clause-acknowledgement : goal.returns-clause-acknowledgement
returns-clause-acknowledgement c = keeps_ack
