use Rattle.std.specs.Prelude.{ℕ, List, [], ◌∷◌, codes}
use Rattle.net_script.specs.declared.command.WireChange.{WireChange}
use Rattle.net_script.specs.Commands.{wire_word}
use Rattle.journal.specs.declared.kind.SwitchEvent.{SwitchEvent}
use Rattle.journal.specs.declared.kind.SwitchEvent.TheVariants as switch
use Rattle.journal.specs.declared.kind.PortEvent.{PortEvent}
use Rattle.journal.specs.declared.kind.PortEvent.TheVariants as port

-- The forms of the lines of a journal.

-- the forms of lines between the first and the last, with the words in their fields
pub data Line : Type 0 where
  Ticks : Line
  Moves : (packet : List ℕ) → Line
  OnSwitch : (event : SwitchEvent) (name : List ℕ) → Line
  OnPort : (event : PortEvent) (name port : List ℕ) → Line
  OnWire : (change : WireChange) (name port count : List ℕ) → Line
  Sends : (host to : List ℕ) → Line

-- the word of an event of a switch
abbrev pub switch_word : SwitchEvent → List ℕ
switch_word switch.Clock = codes "clock"
switch_word switch.Handle = codes "handle"
switch_word switch.Load = codes "load"
switch_word switch.Restart = codes "restart"

-- the word of an event at a port
abbrev pub port_word : PortEvent → List ℕ
port_word port.Take = codes "take"
port_word port.Fail = codes "fail"
port_word port.Repair = codes "repair"

-- the words of a form
abbrev pub line_words : Line → List (List ℕ)
line_words Ticks = codes "tick" ∷ []
line_words (Moves packet) = codes "move" ∷ packet ∷ []
line_words (OnSwitch event name) = switch_word event ∷ name ∷ []
line_words (OnPort event name port) = port_word event ∷ name ∷ port ∷ []
line_words (OnWire change name port count) = wire_word change ∷ name ∷ port ∷ count ∷ []
line_words (Sends host to) = codes "send" ∷ host ∷ to ∷ []
