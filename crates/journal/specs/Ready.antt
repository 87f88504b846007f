-- The lines of the most frequent events, which are made once. Only private functions cite this.

use Rattle.std.specs.Prelude.{◌≡◌, ℕ, ◌+◌, List, Some, Vec, slice_get}
use Rattle.std.specs.declared.alloc.Global.{Global}
use Rattle.an_base.specs.declared.event.Event.TheVariants.{Clock, Take, Handle, Load}
use Rattle.net_script.specs.Scripts.{ScriptOf}
use Rattle.common_lines.specs.Lines.{line_text}
use Rattle.journal.specs.declared.printer.ReadyLines.{ReadyLines}
use Rattle.journal.specs.Events.{event_words}

-- `takes` are the lines of takes from the ports of the switch `node`, from port 1
abbrev pub AreTakesOf : ScriptOf → ℕ → List (Vec ℕ Global) → Type 0
AreTakesOf script node takes =
    (place : ℕ) (line : Vec ℕ Global) → slice_get takes place ≡ Some line
    → line.items ≡ line_text (event_words script (Take node (place + 1)))

-- `lines` are the lines of the events of the switch `node`
pub record AreLinesOf (script : ScriptOf) (node : ℕ) (lines : ReadyLines) : Type 0 where
  pub clock : lines.clock.items ≡ line_text (event_words script (Clock node))
  pub handle : lines.handle.items ≡ line_text (event_words script (Handle node))
  pub load : lines.load.items ≡ line_text (event_words script (Load node))
  pub takes : AreTakesOf script node lines.takes.items

-- `ready` has lines of switches, each at its switch's index
abbrev pub AreReady : ScriptOf → List ReadyLines → Type 0
AreReady script ready =
    (node : ℕ) (lines : ReadyLines) → slice_get ready node ≡ Some lines → AreLinesOf script node lines
