-- What contracts see of a network on one thread, and how it is stored.

use Rattle.std.specs.Prelude.{◌≡◌, ◌⊎◌, ◌==◌, ◌++◌, ◌∷◌, ◌<◌, ◌≤◌, ℕ, List, [], map, length, slice_index_or, Bool, false, if◌then◌else◌}
use Rattle.std.specs.List.{range_with_len}
use Rattle.an_base.specs.Values.{LifeId}
use Rattle.an_base.specs.declared.event.Event.{Event}
use Rattle.net_graph.specs.Wires.{Wires, had_of, network}
use Rattle.net_script.specs.Scripts.{IsScript, ScriptOf}
use Rattle.switch_core.specs.Switch.{StartOf, SwitchOf, started_as}
use Rattle.switch_core.specs.Bytes.{OutOf, all_spelled}
use Rattle.switch_core.specs.Kept.{KeptOf, StandsFor}
use Rattle.net_state.specs.declared.hand.Hand.{Hand}
use Rattle.net_state.specs.declared.hand.Hand.TheVariants as hand
use Rattle.net_state.specs.Fabric.{station, held_bytes}
use Rattle.net_state.specs.declared.line.Line.{Line}
use Rattle.net_world.specs.Accounts.{gathered}
use Rattle.net_world.specs.Lines.{lines_of}
use Rattle.net_world.specs.World.{WorldOf, handles, start_of}
use Rattle.net_world.specs.Histories.{HistoryOf, IsLawful, fabric_of, owner_of, with_event, world_of}
use Rattle.net_world.specs.Turns.{is_noise}

-- a script, the events that came, and whether an allocation failed, after which nothing else is known
pub record NetOf : Type 0 where
  pub script : ScriptOf
  pub events : List Event
  pub lost : Bool

abbrev pub history_of : NetOf → HistoryOf
history_of net = record { script = net.script; events = net.events }

abbrev pub with_step : Event → NetOf → NetOf
with_step event net = record net { events = net.events ++ event ∷ [] }

abbrev pub with_events : List Event → NetOf → NetOf
with_events events net = record net { events = net.events ++ events }

-- the lines that report an event of the driver: a tick, a hop, or a command that is no restart
abbrev pub driver_line : WorldOf → Event → List Line
driver_line world event = if owner_of event == 0 then lines_of world event else []

-- the lines that report those of lawful events in turn that the driver makes
abbrev pub driver_lines : WorldOf → List Event → List Line
driver_lines world events = gathered lines_of 0 world events

-- What a switch is started with in each of its lives: an epoch, the short address that it had before, and whether
-- its tables have all legal routes.
pub record PowerOf : Type 0 where
  pub epoch : ℕ
  pub had : ℕ
  pub any : Bool

-- what the switch at an index is started with, and what all are, in the order of the script
abbrev pub power_of : ScriptOf → ℕ → PowerOf
power_of script place =
    record { epoch = script.epoch; had = had_of script.wires place; any = script.any_routes }

abbrev pub all_powers : ScriptOf → List PowerOf
all_powers script = map (power_of script) (range_with_len 0 (length script.wires.switches))

-- all that a life is started with
abbrev pub start_with : PowerOf → LifeId → StartOf
start_with power life = record { life = life; epoch = power.epoch; had = power.had; any = power.any }

-- `switch` was started with `start`, and nothing has come to it yet
pub record IsStarted (start : StartOf) (switch : KeptOf) : Type 0 where
  pub start_is : switch.start ≡ start
  pub stands : StandsFor switch (started_as start)
  pub works : switch.works ≡ 0

-- the switches of a wiring, each in its first life
pub record AreStarted (powers : List PowerOf) (wires : Wires) (switches : List KeptOf) : Type 0 where
  pub count : length switches ≡ length wires.switches
  pub each : (place : ℕ) → place < length wires.switches → (power : PowerOf) (switch : KeptOf)
      → IsStarted (start_with (slice_index_or powers place power) ((network wires).life place))
      (slice_index_or switches place switch)

-- What came of what a switch had in hand: the switch that is kept, and what goes out.
pub record IsHandled (old : SwitchOf) (hand : Hand) (bytes : List ℕ) (new : KeptOf) (out : OutOf) : Type 0
  where
    pub stands : StandsFor new (handles hand bytes old).switch
    pub frames : out.frames ≡ all_spelled (handles hand bytes old).frames
    pub noframe : out.noframe ≡ is_noise hand bytes

-- the buffer of a switch that has a frame in hand has the bytes of that frame
abbrev pub HasFrame : Hand → List ℕ → List ℕ → Type 0
HasFrame hand.Empty held bytes = Unit {0}
HasFrame (hand.Clock now samples) held bytes = Unit {0}
HasFrame (hand.Frame port) held bytes = bytes ≡ held

-- `switch` represents the switch of the world at `place`, with no more works than there were events
pub record IsSwitchKept (world : WorldOf) (place : ℕ) (switch : KeptOf) (bytes : List ℕ) : Type 0 where
  pub stands : StandsFor switch (world.switches place)
  pub start : switch.start ≡ start_of world.fabric.script place (world.switches place).life.boot
  pub works : switch.works ≤ world.fabric.events
  pub frame : HasFrame (station world.fabric place).hand (held_bytes world.fabric place) bytes

-- `event` was appended, or nothing was
abbrev pub IsSameOrNext : Event → HistoryOf → HistoryOf → Type 0
IsSameOrNext event old new = (new ≡ old) ⊎ (new ≡ with_event event old)

-- How a `Net` is stored: its script is possible, its events were lawful in turn, `powers` is what its switches are
-- started with, and each switch is at its index. The last does not hold after a failed allocation.
pub record IsNetKept (history : HistoryOf) (lost : Bool) (powers : List PowerOf) (switches : List KeptOf)
    (buffers : List (List ℕ)) : Type 0 where
  pub script : IsScript history.script
  pub lawful : IsLawful history.script history.events
  pub counted : (fabric_of history).events ≡ length history.events
  pub powers_are : powers ≡ all_powers history.script
  pub switch_count : length switches ≡ length history.script.wires.switches
  pub buffer_count : length buffers ≡ length history.script.wires.switches
  pub each : lost ≡ false → (place : ℕ) → place < length history.script.wires.switches
      → (switch : KeptOf) (buffer : List ℕ)
      → IsSwitchKept (world_of history) place (slice_index_or switches place switch)
      (slice_index_or buffers place buffer)
