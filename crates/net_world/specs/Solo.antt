-- The order of events if one thread runs everything.

use Rattle.std.specs.Prelude.{◌≡◌, ◌+◌, ◌<◌, ℕ, List, [], ◌∷◌, ◌++◌, length, if◌then◌else◌}
use Rattle.an_base.specs.declared.event.Event.{Event}
use Rattle.an_base.specs.declared.event.Event.TheVariants.{Handle, Load}
use Rattle.net_script.specs.Scripts.{ScriptOf}
use Rattle.net_state.specs.declared.ending.Ending.{Ending}
use Rattle.net_state.specs.declared.work.Drive.TheVariants as drive
use Rattle.net_state.specs.Fabric.{is_full_at, load_due_at}
use Rattle.net_state.specs.Lawful.{is_barred}
use Rattle.net_world.specs.World.{WorldOf, world_after}
use Rattle.net_world.specs.Histories.{last_taken}
use Rattle.net_state.specs.Choices.{next_work, event_of_work, next_drive}

-- the next event of the worker of a switch, if it has one: it handles what the switch holds; otherwise it loads, if a
-- load is due; otherwise it takes
abbrev pub worker_event : WorldOf → ℕ → ℕ → List Event
worker_event world place last =
    if is_full_at world.fabric place then Handle place ∷ []
    else if is_barred world.fabric then []
    else if load_due_at world.fabric place then Load place ∷ []
    else event_of_work place (next_work world.fabric place last)

-- a history in which the workers, in the order of the script, have each their turn while they have work, and then the
-- driver until it waits, and so on; the number says whose turn it is: the index of a worker's switch, or the number of
-- switches for the driver
pub data IsOneThread (script : ScriptOf) : List Event → ℕ → Type 0 where
  begins : IsOneThread script [] 0
  works : (history : List Event) (place : ℕ) (event : Event) → IsOneThread script history place
      → place < length script.wires.switches
      → worker_event (world_after script history) place (last_taken place history) ≡ event ∷ []
      → IsOneThread script (history ++ event ∷ []) place
  rests : (history : List Event) (place : ℕ) → IsOneThread script history place
      → place < length script.wires.switches
      → worker_event (world_after script history) place (last_taken place history) ≡ []
      → IsOneThread script history (place + 1)
  drives : (history : List Event) (event : Event) → IsOneThread script history (length script.wires.switches)
      → next_drive (world_after script history).fabric ≡ drive.Did event
      → IsOneThread script (history ++ event ∷ []) (length script.wires.switches)
  waits : (history : List Event) → IsOneThread script history (length script.wires.switches)
      → next_drive (world_after script history).fabric ≡ drive.Waits
      → IsOneThread script history 0

-- the history that one thread makes, with its ending
pub record IsSolo (script : ScriptOf) (history : List Event) (end : Ending) : Type 0 where
  pub order : IsOneThread script history (length script.wires.switches)
  pub ended : next_drive (world_after script history).fabric ≡ drive.Ended end
