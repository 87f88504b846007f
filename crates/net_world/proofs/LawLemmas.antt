-- Each reached world is sound.

use Rattle.std.specs.Prelude.{List}
use Rattle.an_base.specs.declared.event.Event.{Event}
use Rattle.net_script.specs.Scripts.{ScriptOf, IsScript}
use Rattle.net_world.specs.World.{world_after}
use Rattle.net_world.specs.Sound.{IsSoundWorld}
use Rattle.net_world.proofs.InductionLemmas.{world_script}
use Rattle.net_world.proofs.FabricLemmas.{world_fits}
use Rattle.net_world.proofs.PlaceLemmas.{world_places}
use Rattle.net_world.proofs.BootLemmas.{world_boots}
use Rattle.net_world.proofs.TableLemmas.{world_tables}

pub world_is_sound : (script : ScriptOf) → IsScript script → (h : List Event) → IsSoundWorld script (world_after script h)
world_is_sound script kept h = record {
  stays = world_script script h;
  fits = world_fits script kept h;
  places = world_places script kept h;
  boots = world_boots script h;
  tables = world_tables script kept h;
}
