-- What holds of every history.

use Rattle.std.specs.Prelude.{List}
use Rattle.an_base.specs.declared.event.Event.{Event}
use Rattle.net_script.specs.Scripts.{IsScript, ScriptOf}

-- `Holds` holds of each history of each possible script
abbrev pub OfEachHistory : (ScriptOf → List Event → Type 0) → Type 0
OfEachHistory Holds = (script : ScriptOf) → IsScript script → (history : List Event) → Holds script history
