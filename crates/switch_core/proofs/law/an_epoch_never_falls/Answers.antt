use Rattle.std.proofs.Common.{refl}
use Rattle.switch_core.proofs.LawLemmas.{clock_rises, frame_raises}
use Rattle.switch_core.proofs.law.an_epoch_never_falls.Goals as goal

pub returns-clause-frame : goal.returns-clause-frame
returns-clause-frame c = frame_raises

pub returns-clause-clock : goal.returns-clause-clock
returns-clause-clock c now samples s = (clock_rises now samples s).0

pub returns-clause-one_more : goal.returns-clause-one_more
returns-clause-one_more c now samples s = (clock_rises now samples s).1

pub returns-clause-load : goal.returns-clause-load
returns-clause-load c number s = refl
