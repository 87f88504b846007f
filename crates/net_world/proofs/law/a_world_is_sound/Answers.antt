use Rattle.net_world.proofs.LawLemmas.{world_is_sound}
use Rattle.net_world.proofs.law.a_world_is_sound.Goals as goal

pub returns : goal.returns
returns c = record { sound = world_is_sound }
