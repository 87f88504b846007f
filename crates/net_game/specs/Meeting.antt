-- Lives that met over a link.

use Rattle.std.specs.Prelude.{◌≡◌, ◌++◌, ℕ, List, Some}
use Rattle.an_base.specs.Values.{LifeId, EndId}
use Rattle.an_base.specs.declared.event.Event.{Event}
use Rattle.net_graph.specs.declared.wiring.Far.TheVariants.{Switch}
use Rattle.net_graph.specs.Wires.{far_at}
use Rattle.net_script.specs.Scripts.{ScriptOf}
use Rattle.net_world.specs.Histories.{switch_after}

-- The end `far` is at the far side of `port` of the switch at index `place` by the wiring, and its life was there
-- at a point in time at which `life` was at `place`.
pub record Met (script : ScriptOf) (history : List Event) (place : ℕ) (life : LifeId) (port : ℕ)
    (far : EndId) : Type 0 where
  pub other : ℕ
  pub wired : far_at script.wires place port ≡ Some (Switch other far.port)
  pub before : List Event
  pub later : List Event
  pub parts : history ≡ before ++ later
  pub here : (switch_after script before place).life ≡ life
  pub there : (switch_after script before other).life ≡ far.life
