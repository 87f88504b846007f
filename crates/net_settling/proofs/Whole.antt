-- All that is claimed of a lawful history, from the parts.

use Rattle.std.specs.Prelude.{◌≡◌, ◌≢◌, List, None, Some}
use Rattle.an_base.specs.declared.event.Event.{Event}
use Rattle.net_script.specs.Scripts.{ScriptOf, IsScript}
use Rattle.net_state.specs.declared.ending.Ending.TheVariants as ending
use Rattle.net_world.specs.Histories.{IsLawful, end_of}
use Rattle.net_game.proofs.MomentLemmas.{holds_throughout}
use Rattle.net_settling.specs.Settling.{AreBodiesThrough, HasTime, SettlesSoon}
use Rattle.net_settling.specs.Claims.{HoldsAndSettles}
use Rattle.net_settling.proofs.Bodies.{bodies_through}
use Rattle.net_settling.proofs.Claims.{all_claims, ports_settle}
use Rattle.net_settling.proofs.Finals.{ports_final}
use Rattle.net_settling.proofs.Runs.{all_runs}

-- so many ticks later the bodies are through
pub all_through : (script : ScriptOf) → IsScript script → script.pace ≡ None → AreBodiesThrough script
all_through script kept unpaced = bodies_through script kept unpaced (all_runs script kept unpaced)

pub settles_soon : (script : ScriptOf) → IsScript script → (history : List Event) → IsLawful script history → SettlesSoon script history
settles_soon script kept history lawful = record {
  ports = λ unpaced roomy. ports_settle script kept (ports_final script kept unpaced) history lawful unpaced roomy;
  all = λ unpaced roomy. all_claims script kept (ports_final script kept unpaced) (all_through script kept unpaced) history lawful unpaced roomy;
}

-- so where it has the time, it does not end unsettled
pub ends_in_time : (script : ScriptOf) → IsScript script → (history : List Event) → IsLawful script history → HasTime script history → end_of script history ≢ Some ending.Unsettled
ends_in_time script kept history lawful time = ((settles_soon script kept history lawful).all time.unpaced time.roomy).in_time time.limit

-- all that is claimed
pub holds_and_settles : (script : ScriptOf) → IsScript script → (history : List Event) → IsLawful script history → HoldsAndSettles script history
holds_and_settles script kept history lawful = record {
  holds = holds_throughout script kept history;
  settles = settles_soon script kept history lawful;
}
