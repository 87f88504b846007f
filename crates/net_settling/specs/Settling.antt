-- How soon a network settles after it was last disturbed.

use Rattle.std.specs.Prelude.{◌≡◌, ◌≢◌, ◌+◌, ◌≤◌, ◌<◌, ◌&&◌, ℕ, nat_lt, not, List, ◌∷◌, ◌++◌, [], map, All, Some, None, is_some, Bool, true, false}
use Rattle.an_base.specs.Ports.{PortViewOf}
use Rattle.an_base.specs.declared.event.Event.{Event}
use Rattle.net_script.specs.declared.command.Command.{Command}
use Rattle.net_script.specs.Scripts.{ScriptOf}
use Rattle.net_state.specs.declared.ending.Ending.TheVariants as ending
use Rattle.net_state.specs.Fabric.{FabricOf, due_command, are_all_done, full_hands, is_some_spent, is_some_unacked}
use Rattle.net_state.specs.Agree.{agrees, is_idle, is_settled}
use Rattle.net_state.specs.Lawful.{is_lawful}
use Rattle.net_world.specs.World.{world_after}
use Rattle.net_world.specs.Histories.{IsLawful, end_of}
use Rattle.net_settling.specs.Disturbances.{is_told, is_either, disturbs, last_disturbance, last_loss, NoneForRoom}

-- Nothing is left to do before another tick: no command is due, no hand is full, no packet is under way, no
-- clock and no load is due, and the wires are empty. Without a pace a tick needs this.
abbrev pub is_still : FabricOf → Bool
is_still fabric = not (is_some (due_command fabric)) && not (nat_lt 0 (full_hands fabric)) && is_idle fabric

-- the state and the peer that each switch shows for each of its ports
abbrev pub ports_shown : FabricOf → List (List PortViewOf)
ports_shown fabric = map (λ at. at.note.ports) fabric.stations

-- After a history the network agrees, no switch is spent, and only a disturbance changes the state or the peer of a
-- port.
pub record AreFinal (script : ScriptOf) (history : List Event) : Type 0 where
  pub agree : agrees (world_after script history).fabric ≡ true
  pub works : is_some_spent (world_after script history).fabric ≡ false
  pub stay : (event : Event) → is_lawful (world_after script history).fabric event ≡ true
      → disturbs is_either (world_after script history) event ≡ false
      → ports_shown (world_after script (history ++ event ∷ [])).fabric
      ≡ ports_shown (world_after script history).fabric

-- 259 ticks after the last disturbance, including losses because space ran out, the ports are final. 259 is its own
-- tick, and then at most 129 clocks and 129 answers at each end of a link.
abbrev pub PortsAreFinal : ScriptOf → List Event → Type 0
PortsAreFinal script history =
    last_disturbance is_either script history + 259 ≤ (world_after script history).fabric.tick
    → AreFinal script history

-- Three ticks later, 262 after the last disturbance, if nothing is left to do, each body that was pushed is
-- acknowledged.
abbrev pub BodiesAreThrough : ScriptOf → List Event → Type 0
BodiesAreThrough script history =
    last_disturbance is_either script history + 262 ≤ (world_after script history).fabric.tick
    → is_still (world_after script history).fabric ≡ true
    → is_some_unacked (world_after script history).fabric ≡ false

-- Each lawful history of a script is such.
abbrev pub ArePortsFinal : ScriptOf → Type 0
ArePortsFinal script = (history : List Event) → IsLawful script history → PortsAreFinal script history

abbrev pub AreBodiesThrough : ScriptOf → Type 0
AreBodiesThrough script = (history : List Event) → IsLawful script history → BodiesAreThrough script history

-- the last tick of a history at which a command was done or a commanded loss came
abbrev pub last_told : ScriptOf → List Event → ℕ
last_told script history = last_disturbance is_told script history

-- At a point in time of a history more than 512 ticks after `last_told`, the network agrees, and every port has the
-- same state and peer at the end of the history.
pub record AgreesAt (script : ScriptOf) (before later : List Event) : Type 0 where
  pub agree : agrees (world_after script before).fabric ≡ true
  pub stay : ports_shown (world_after script (before ++ later)).fabric
      ≡ ports_shown (world_after script before).fabric

-- `AgreesAt` holds at each point in time of a history that is more than 512 ticks after `last_told`. 512 is above
-- the 259 ticks after which the ports are final.
abbrev pub PortsSettle : ScriptOf → List Event → Type 0
PortsSettle script history = (before later : List Event) → history ≡ before ++ later
    → last_told script history + 512 < (world_after script before).fabric.tick
    → AgreesAt script before later

-- When all commands are done the clock is at most 1,024 ticks after `last`. If it is that late and nothing is left
-- to do, so that a tick would come next, the network is settled.
pub record SettlesAt (script : ScriptOf) (last : ℕ) (before : List Event) : Type 0 where
  pub within : (world_after script before).fabric.tick ≤ last + 1024
  pub settled : is_still (world_after script before).fabric ≡ true
      → last + 1024 ≤ (world_after script before).fabric.tick
      → is_settled (world_after script before).fabric ≡ true

-- `SettlesAt` holds at each point in time of a history at which all commands are done. 1,024 is above the 262 ticks
-- after which the bodies are through.
abbrev pub MomentsSettle : ScriptOf → List Event → Type 0
MomentsSettle script history = (before later : List Event) → history ≡ before ++ later
    → are_all_done (world_after script before).fabric ≡ true
    → SettlesAt script (last_told script history) before

-- the limit on ticks is 1,024 or more above the times of all commands and the last commanded loss
pub record IsLimitLate (script : ScriptOf) (history : List Event) : Type 0 where
  pub commands : All (λ (command : Command). command.time + 1024 ≤ script.limits.ticks) script.commands
  pub losses : last_loss script history + 1024 ≤ script.limits.ticks

-- A history settles: each point in time does, as in `MomentsSettle`; and if the limit on ticks is late enough it
-- does not end unsettled.
pub record Settles (script : ScriptOf) (history : List Event) : Type 0 where
  pub moments : MomentsSettle script history
  pub in_time : IsLimitLate script history → end_of script history ≢ Some ending.Unsettled

-- `claim` holds of `history` if there is no pace and no frame and no copy was lost because space ran out.
abbrev pub IfUnpacedAndRoomy : ScriptOf → (ScriptOf → List Event → Type 0) → List Event → Type 0
IfUnpacedAndRoomy script claim history =
    script.pace ≡ None → NoneForRoom script history → claim script history

-- How soon a lawful history of a script settles: its ports, and all of it.
pub record SettlesSoon (script : ScriptOf) (history : List Event) : Type 0 where
  pub ports : IfUnpacedAndRoomy script PortsSettle history
  pub all : IfUnpacedAndRoomy script Settles history

-- The three conditions under which no lawful history ends unsettled: there is no pace, no frame and no copy was
-- lost because space ran out, and the limit on ticks is 1,024 or more above the times of all commands and the last
-- commanded loss.
pub record HasTime (script : ScriptOf) (history : List Event) : Type 0 where
  pub unpaced : script.pace ≡ None
  pub roomy : NoneForRoom script history
  pub limit : IsLimitLate script history
