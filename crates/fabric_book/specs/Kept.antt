-- How a `Book` is stored, and what its parts do. No public contract cites this module.

use Rattle.std.specs.Prelude.{◌≡◌, ◌++◌, ◌≤◌, ℕ, List, map, length, true, false}
use Rattle.an_base.specs.declared.event.Event.{Event}
use Rattle.an_base.specs.declared.event.Event.TheVariants.{Tick, Move}
use Rattle.net_script.specs.Commands.{is_restart}
use Rattle.net_script.specs.Scripts.{IsScript}
use Rattle.net_state.specs.Fabric.{FabricOf, places, samples_of}
use Rattle.net_state.specs.declared.work.Work.{Work}
use Rattle.net_state.specs.declared.work.Work.TheVariants as work
use Rattle.net_state.specs.Lawful.{is_command}
use Rattle.net_world.specs.World.{world_after}
use Rattle.net_world.specs.Histories.{HistoryOf, IsLawful, last_taken}

-- The script is possible, the events were lawful in turn, the state is what they make of it, the port last taken at
-- each switch comes from them, and there is room for all events of the script.
pub record IsKept (fabric : FabricOf) (events : List Event) (taken : List ℕ) (capacity : ℕ) : Type 0 where
  pub script : IsScript fabric.script
  pub lawful : IsLawful fabric.script events
  pub fabric_is : fabric ≡ (world_after fabric.script events).fabric
  pub counted : fabric.events ≡ length events
  pub taken_is : taken ≡ map (λ place. last_taken place events) (places fabric)
  pub room : fabric.script.limits.events ≤ capacity

abbrev pub history_with : List Event → HistoryOf → HistoryOf
history_with events history = record history { events = history.events ++ events }

-- the samples of a clock are the present ones
abbrev pub HasSamples : Work → FabricOf → ℕ → Type 0
HasSamples (work.Clock now samples) fabric place = samples ≡ samples_of fabric place
HasSamples other fabric place = Unit {0}

-- the event is a command that is due, and no restart
pub record IsPlainCommand (fabric : FabricOf) (event : Event) : Type 0 where
  pub command : is_command fabric event ≡ true
  pub other : is_restart event ≡ false

-- the event is one that the driver makes: a tick, a hop, or a command that is no restart
abbrev pub IsDrivers : FabricOf → Event → Type 0
IsDrivers fabric Tick = Unit {0}
IsDrivers fabric (Move packet) = Unit {0}
IsDrivers fabric event = IsPlainCommand fabric event
