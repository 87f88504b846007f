use Rattle.switch_core.proofs.SoundLemmas.{clocked_by, framed_by, loaded_by, more_by, sound_started}
use Rattle.switch_core.proofs.law.a_switch_stays_sound.Goals as goal

pub returns-clause-start : goal.returns-clause-start
returns-clause-start c x least most = sound_started x.life x.epoch x.had x.any least most

pub returns-clause-more : goal.returns-clause-more
returns-clause-more c = more_by

pub returns-clause-frame : goal.returns-clause-frame
returns-clause-frame c = framed_by

pub returns-clause-clock : goal.returns-clause-clock
returns-clause-clock c = clocked_by

pub returns-clause-load : goal.returns-clause-load
returns-clause-load c = loaded_by
