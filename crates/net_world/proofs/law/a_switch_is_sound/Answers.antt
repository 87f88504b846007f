use Rattle.net_world.proofs.SoundLemmas.{world_finishes, world_sound}
use Rattle.net_world.proofs.law.a_switch_is_sound.Goals as goal

pub returns-clause-sound : goal.returns-clause-sound
returns-clause-sound c = world_sound

pub returns-clause-finish : goal.returns-clause-finish
returns-clause-finish c = world_finishes
