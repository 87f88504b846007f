use Rattle.std.specs.Prelude.{ℕ, ◌^◌, ◌<◌, ◌≤◌, List, [], ◌∷◌, ◌++◌, length, map, codes, slice_index_or}
use Rattle.std.specs.Fmt.{decimal}
use Rattle.an_base.specs.declared.event.Event.{Event}
use Rattle.an_base.specs.declared.event.Event.TheVariants.{Tick, Clock, Take, Handle, Load, Fail, Repair}
use Rattle.an_base.specs.declared.event.Event.TheVariants.{Lose, Again, Swap, Noise, Send, Move, Restart}
use Rattle.net_script.specs.Commands.{IsPort}
use Rattle.net_script.specs.Scripts.{ScriptOf}
use Rattle.common_lines.specs.Lines.{line_text, lines_text}
use Rattle.journal.specs.Lines.{Line, Ticks, Moves, OnSwitch, OnPort, OnWire, Sends, line_words}
use Rattle.journal.specs.declared.kind.SwitchEvent.TheVariants as switch
use Rattle.journal.specs.declared.kind.PortEvent.TheVariants as port
use Rattle.net_script.specs.declared.command.WireChange.TheVariants as wire

-- The text of a journal, event by event.

-- the name of the switch `node`, and of the host `host`
abbrev pub switch_name : ScriptOf → ℕ → List ℕ
switch_name script node = slice_index_or script.switch_names node []

abbrev pub host_name : ScriptOf → ℕ → List ℕ
host_name script host = slice_index_or script.names_of_hosts host []

-- the line of an event
abbrev pub event_line : ScriptOf → Event → Line
event_line script Tick = Ticks
event_line script (Clock node) = OnSwitch switch.Clock (switch_name script node)
event_line script (Take node at_port) = OnPort port.Take (switch_name script node) (decimal at_port)
event_line script (Handle node) = OnSwitch switch.Handle (switch_name script node)
event_line script (Load node) = OnSwitch switch.Load (switch_name script node)
event_line script (Fail node at_port) = OnPort port.Fail (switch_name script node) (decimal at_port)
event_line script (Repair node at_port) = OnPort port.Repair (switch_name script node) (decimal at_port)
event_line script (Lose node at_port count) =
    OnWire wire.Lose (switch_name script node) (decimal at_port) (decimal count)
event_line script (Again node at_port count) =
    OnWire wire.Again (switch_name script node) (decimal at_port) (decimal count)
event_line script (Swap node at_port count) =
    OnWire wire.Swap (switch_name script node) (decimal at_port) (decimal count)
event_line script (Noise node at_port count) =
    OnWire wire.Noise (switch_name script node) (decimal at_port) (decimal count)
event_line script (Send host to) = Sends (host_name script host) (host_name script to)
event_line script (Move packet) = Moves (decimal packet)
event_line script (Restart node) = OnSwitch switch.Restart (switch_name script node)

-- the words of an event
abbrev pub event_words : ScriptOf → Event → List (List ℕ)
event_words script event = line_words (event_line script event)

-- `node` is a switch of the script, and `host` is a host of it
abbrev pub IsSwitch : ScriptOf → ℕ → Type 0
IsSwitch script node = node < length script.wires.switches

abbrev pub IsHost : ScriptOf → ℕ → Type 0
IsHost script host = host < length script.wires.hosts

-- `at_port` is a port of a switch `node` of the script, and `count` is from 1 to `most`
pub record IsCount (script : ScriptOf) (node at_port count most : ℕ) : Type 0 where
  pub port : IsPort script.wires node at_port
  pub count_least : 1 ≤ count
  pub count_most : count ≤ most

-- the event can be written for the script: its indices are those of the script, and its numbers are in range
abbrev pub CanSpell : ScriptOf → Event → Type 0
CanSpell script Tick = Unit {0}
CanSpell script (Clock node) = IsSwitch script node
CanSpell script (Take node at_port) = IsPort script.wires node at_port
CanSpell script (Handle node) = IsSwitch script node
CanSpell script (Load node) = IsSwitch script node
CanSpell script (Fail node at_port) = IsPort script.wires node at_port
CanSpell script (Repair node at_port) = IsPort script.wires node at_port
CanSpell script (Lose node at_port count) = IsCount script node at_port count 1000000
CanSpell script (Again node at_port count) = IsCount script node at_port count 1000000
CanSpell script (Swap node at_port count) = IsCount script node at_port count 1000000
CanSpell script (Noise node at_port count) = IsCount script node at_port count 64
CanSpell script (Send host to) = IsHost script host × IsHost script to
CanSpell script (Move packet) = (1 ≤ packet) × (packet < 2 ^ 32)
CanSpell script (Restart node) = IsSwitch script node

-- the words of the first and of the last line of a journal
abbrev pub first_words : List (List ℕ)
first_words = codes "journal" ∷ codes "1" ∷ []

abbrev pub last_words : List (List ℕ)
last_words = codes "end" ∷ []

-- the text of the lines of `events`
abbrev pub events_text : ScriptOf → List Event → List ℕ
events_text script events = lines_text (map (event_words script) events)

-- the text of a journal: `journal 1`, a line for each event, and `end`
unfoldable pub journal_text : ScriptOf → List Event → List ℕ
journal_text script events = line_text first_words ++ (events_text script events ++ line_text last_words)
