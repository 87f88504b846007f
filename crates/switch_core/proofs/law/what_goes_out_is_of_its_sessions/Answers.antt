use Rattle.switch_core.proofs.GoingLemmas.{clock_goes_out, frame_goes_out}
use Rattle.switch_core.proofs.law.what_goes_out_is_of_its_sessions.Goals as goal

pub returns-clause-frame : goal.returns-clause-frame
returns-clause-frame c = frame_goes_out

pub returns-clause-clock : goal.returns-clause-clock
returns-clause-clock c = clock_goes_out
