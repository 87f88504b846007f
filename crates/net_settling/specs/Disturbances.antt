-- What disturbs a network, and when it was last disturbed.

use Rattle.std.specs.Prelude.{◌≡◌, ◌&&◌, ◌||◌, ℕ, List, [], ◌∷◌, ◌++◌, Bool, true, false, if◌then◌else◌}
use Rattle.std.specs.List.{list_any}
use Rattle.an_base.specs.declared.event.Event.{Event}
use Rattle.an_base.specs.declared.event.Event.TheVariants.{Tick, Clock, Take, Handle, Load, Fail, Repair, Lose, Again, Swap, Noise, Send, Move, Restart}
use Rattle.net_script.specs.Scripts.{ScriptOf}
use Rattle.wire_set.specs.declared.side.Loss.{Loss}
use Rattle.wire_set.specs.declared.side.Loss.TheVariants.{Down, Told, NoRoom}
use Rattle.net_state.specs.Lawful.{is_lawful}
use Rattle.net_state.specs.declared.line.Line.{Line}
use Rattle.net_state.specs.declared.line.Line.TheVariants as line
use Rattle.net_world.specs.Lines.{lines_of}
use Rattle.net_world.specs.World.{WorldOf, begun, step, world_after}

-- the event is of a kind that only commands of the script have
abbrev pub is_of_script : Event → Bool
is_of_script Tick = false
is_of_script (Clock place) = false
is_of_script (Take place port) = false
is_of_script (Handle place) = false
is_of_script (Load place) = false
is_of_script (Move packet) = false
is_of_script (Fail place port) = true
is_of_script (Repair place port) = true
is_of_script (Lose place port times) = true
is_of_script (Again place port times) = true
is_of_script (Swap place port times) = true
is_of_script (Noise place port bytes) = true
is_of_script (Send from to) = true
is_of_script (Restart place) = true

-- The reasons for a loss of a frame or a copy: a command lost it (`Told`), or space ran out (`NoRoom`). A link that
-- was down is neither.
abbrev pub is_told : Loss → Bool
is_told Down = false
is_told Told = true
is_told (NoRoom need free) = false

abbrev pub is_for_room : Loss → Bool
is_for_room Down = false
is_for_room Told = false
is_for_room (NoRoom need free) = true

abbrev pub is_either : Loss → Bool
is_either Down = false
is_either Told = true
is_either (NoRoom need free) = true

-- the line reports a loss for such a reason
abbrev pub is_lost_by : (Loss → Bool) → Line → Bool
is_lost_by test (line.Lost place port cause) = test cause
is_lost_by test other = false

-- the event loses a frame or a copy for such a reason
abbrev pub loses : (Loss → Bool) → WorldOf → Event → Bool
loses test world event = list_any (is_lost_by test) (lines_of world event)

-- the event is lawful, and is a command or loses a frame or a copy for such a reason
abbrev pub disturbs : (Loss → Bool) → WorldOf → Event → Bool
disturbs test world event = is_lawful world.fabric event && (is_of_script event || loses test world event)

-- the event is lawful, and loses a frame or a copy by a command
abbrev pub loses_as_told : WorldOf → Event → Bool
loses_as_told world event = is_lawful world.fabric event && loses is_told world event

-- the tick of the last event that `test` accepts, or `last` if there is none
abbrev pub since : (WorldOf → Event → Bool) → ℕ → WorldOf → List Event → ℕ
since test last world [] = last
since test last world (event ∷ events) =
    since test (if test world event then world.fabric.tick else last) (step world event) events

-- the tick of the last disturbance in a history, and of the last commanded loss; 0 if there was none
abbrev pub last_disturbance : (Loss → Bool) → ScriptOf → List Event → ℕ
last_disturbance test script history = since (disturbs test) 0 (begun script) history

abbrev pub last_loss : ScriptOf → List Event → ℕ
last_loss script history = since loses_as_told 0 (begun script) history

-- No frame and no copy was lost because space ran out. Noise can have been lost: it is all
-- that a command puts on wires.
abbrev pub NoneForRoom : ScriptOf → List Event → Type 0
NoneForRoom script history = (before later : List Event) (event : Event) → history ≡ before ++ event ∷ later
    → is_of_script event ≡ false → loses is_for_room (world_after script before) event ≡ false
