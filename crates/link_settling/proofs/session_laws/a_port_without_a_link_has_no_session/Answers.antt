use Rattle.link_settling.proofs.Unused.{unused_start, unused_clock, unused_frame, unused_load}
use Rattle.link_settling.proofs.session_laws.a_port_without_a_link_has_no_session.Goals as goal

pub returns-clause-start : goal.returns-clause-start
returns-clause-start c = unused_start

pub returns-clause-clock : goal.returns-clause-clock
returns-clause-clock c = unused_clock

pub returns-clause-frame : goal.returns-clause-frame
returns-clause-frame c = unused_frame

pub returns-clause-load : goal.returns-clause-load
returns-clause-load c = unused_load
