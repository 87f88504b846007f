-- Lists of events: lawful ones, ended ones, and the callers that events belong to.

use Rattle.std.specs.Prelude.{◌≡◌, ◌+◌, ◌==◌, ℕ, List, [], ◌∷◌, ◌++◌, Option, Some, true, false, if◌then◌else◌}
use Rattle.an_base.specs.declared.event.Event.{Event}
use Rattle.an_base.specs.declared.event.Event.TheVariants.{Clock, Take, Handle, Load, Restart}
use Rattle.net_script.specs.Scripts.{ScriptOf}
use Rattle.switch_core.specs.Switch.{SwitchOf}
use Rattle.switch_core.specs.declared.switch.TableFor.{TableFor}
use Rattle.net_state.specs.declared.ending.Ending.{Ending}
use Rattle.net_state.specs.Agree.{ending_of}
use Rattle.net_state.specs.Fabric.{FabricOf, station}
use Rattle.net_state.specs.Lawful.{is_lawful}
use Rattle.net_world.specs.World.{WorldOf, begun, step, world_after}

-- a script that a network was started with, and the events that came
pub record HistoryOf : Type 0 where
  pub script : ScriptOf
  pub events : List Event

-- the world after a history
abbrev pub world_of : HistoryOf → WorldOf
world_of history = world_after history.script history.events

-- the fabric after a history
abbrev pub fabric_of : HistoryOf → FabricOf
fabric_of history = (world_of history).fabric

-- the history with one more event
abbrev pub with_event : Event → HistoryOf → HistoryOf
with_event event history = record history { events = history.events ++ event ∷ [] }

-- each event is lawful after those before it
abbrev pub AreLawful : WorldOf → List Event → Type 0
AreLawful world [] = Unit {0}
AreLawful world (event ∷ events) = (is_lawful world.fabric event ≡ true) × AreLawful (step world event) events

-- each event is lawful, from the start of the network on
abbrev pub IsLawful : ScriptOf → List Event → Type 0
IsLawful script history = AreLawful (begun script) history

-- the ending of a history, if it has ended
abbrev pub end_of : ScriptOf → List Event → Option Ending
end_of script history = ending_of (world_after script history).fabric

-- the history is lawful, and has this ending
pub record IsLegal (script : ScriptOf) (history : List Event) (end : Ending) : Type 0 where
  pub lawful : IsLawful script history
  pub ends : end_of script history ≡ Some end

-- `event` is the first event of the history that is not lawful, and `before` are those before it
pub record IsFirstFault (script : ScriptOf) (history before : List Event) (event : Event)
    (after : List Event) : Type 0 where
  pub parts : history ≡ before ++ event ∷ after
  pub lawful : IsLawful script before
  pub fault : is_lawful (world_after script before).fabric event ≡ false

-- the switch at index `place` after a history
abbrev pub switch_after : ScriptOf → List Event → ℕ → SwitchOf
switch_after script history place = (world_after script history).switches place

-- the table in use at index `place` after a history
abbrev pub in_use : ScriptOf → List Event → ℕ → Option TableFor
in_use script history place = (station (world_after script history).fabric place).table

-- the caller that an event belongs to: `place` + 1 for those of the switch at index `place`, and 0 for all others
abbrev pub owner_of : Event → ℕ
owner_of (Clock place) = place + 1
owner_of (Take place port) = place + 1
owner_of (Handle place) = place + 1
owner_of (Load place) = place + 1
owner_of (Restart place) = place + 1
owner_of event = 0

-- the port that a switch last took a frame from, or `port` if it took none
abbrev pub last_port : ℕ → ℕ → List Event → ℕ
last_port place port [] = port
last_port place port (Take other entry ∷ events) =
    last_port place (if other == place then entry else port) events
last_port place port (event ∷ events) = last_port place port events

-- the port that a switch last took a frame from, 0 before its first frame
abbrev pub last_taken : ℕ → List Event → ℕ
last_taken place history = last_port place 0 history
