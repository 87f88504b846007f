-- A network on one thread, in the order of `IsOneThread`. No public contract cites this module.

use Rattle.std.specs.Prelude.{◌≡◌, ◌++◌, ◌<◌, ◌≤◌, ℕ, List, [], length, Option, Some, None, false}
use Rattle.an_base.specs.declared.event.Event.{Event}
use Rattle.net_state.specs.declared.ending.Ending.{Ending}
use Rattle.net_state.specs.declared.work.Drive.TheVariants as drive
use Rattle.net_state.specs.Choices.{next_drive}
use Rattle.net_state.specs.declared.work.Drive.{Drive}
use Rattle.net_state.specs.declared.line.Line.{Line}
use Rattle.net_world.specs.Histories.{fabric_of, last_taken, world_of}
use Rattle.net_world.specs.Lines.{lines_of}
use Rattle.net_world.specs.World.{WorldOf, begun}
use Rattle.net_world.specs.Solo.{IsOneThread, worker_event}
use Rattle.fabric_book.specs.Nets.{NetOf, driver_lines, history_of}

-- it is the turn of the worker at the index `turn`, or of the driver after the last worker
pub record IsTurnOf (turn : ℕ) (net : NetOf) : Type 0 where
  pub here : net.lost ≡ false
  pub order : IsOneThread net.script net.events turn
  pub room : length net.events ≤ net.script.limits.events

abbrev pub IsTurnOfDriver : NetOf → Type 0
IsTurnOfDriver net = IsTurnOf (length net.script.wires.switches) net

-- events were appended, or none
pub record GoesOn (before after : NetOf) : Type 0 where
  pub script : after.script ≡ before.script
  pub more : List Event
  pub events : after.events ≡ before.events ++ more

-- the worker of a switch has nothing to do
abbrev pub IsIdleAt : NetOf → ℕ → Type 0
IsIdleAt net place = worker_event (world_of (history_of net)) place (last_taken place net.events) ≡ []

-- no worker below the index `limit` has anything to do, if nothing came since
abbrev pub AreIdleBefore : ℕ → NetOf → NetOf → Type 0
AreIdleBefore limit before after =
    after.events ≡ before.events → (place : ℕ) → place < limit → IsIdleAt after place

-- the driver waits, or an end has come
abbrev pub HasDriven : Option Ending → NetOf → Type 0
HasDriven None net = IsTurnOf 0 net × (next_drive (fabric_of (history_of net)) ≡ drive.Waits)
HasDriven (Some end) net = IsTurnOfDriver net × (next_drive (fabric_of (history_of net)) ≡ drive.Ended end)

-- the lines that report the driver's events
abbrev pub told_of : NetOf → List Line
told_of net = driver_lines (begun net.script) net.events

-- the lines that report what the driver did
abbrev pub drive_lines : WorldOf → Drive → List Line
drive_lines world (drive.Did event) = lines_of world event
drive_lines world drive.Waits = []
drive_lines world (drive.Ended end) = []
