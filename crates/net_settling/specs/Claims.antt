-- All that is claimed of a lawful history.

use Rattle.std.specs.Prelude.{List}
use Rattle.an_base.specs.declared.event.Event.{Event}
use Rattle.net_script.specs.Scripts.{ScriptOf}
use Rattle.net_world.specs.Clauses.{HoldsThroughout}
use Rattle.net_settling.specs.Settling.{SettlesSoon}

-- what holds at each point in time of `history`, what has finished if it ends settled, and how soon it settles
pub record HoldsAndSettles (script : ScriptOf) (history : List Event) : Type 0 where
  pub holds : HoldsThroughout script history
  pub settles : SettlesSoon script history
