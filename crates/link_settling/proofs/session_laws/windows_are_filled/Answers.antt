use Rattle.link_settling.proofs.Keeps.{filled_start, filled_clock, filled_frame, filled_load, none_unacked}
use Rattle.link_settling.proofs.session_laws.windows_are_filled.Goals as goal

pub returns-clause-start : goal.returns-clause-start
returns-clause-start c = filled_start

pub returns-clause-clock : goal.returns-clause-clock
returns-clause-clock c = filled_clock

pub returns-clause-frame : goal.returns-clause-frame
returns-clause-frame c = filled_frame

pub returns-clause-load : goal.returns-clause-load
returns-clause-load c = filled_load

pub returns-clause-none : goal.returns-clause-none
returns-clause-none c = none_unacked
