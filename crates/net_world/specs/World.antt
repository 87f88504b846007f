-- The world: its start and its steps.

use Rattle.std.specs.Prelude.{◌+◌, ℕ, List, [], ◌∷◌, map, length, Option, Some, None, false, if◌then◌else◌}
use Rattle.std.specs.List.{range_with_len}
use Rattle.an_base.specs.Values.{TopoOf}
use Rattle.an_base.specs.declared.event.Event.{Event}
use Rattle.an_base.specs.declared.event.Event.TheVariants.{Tick, Clock, Take, Handle, Load, Fail, Repair, Lose, Again, Swap, Noise, Send, Move, Restart}
use Rattle.an_base.specs.declared.frame.Frame.{Frame}
use Rattle.net_graph.specs.Wires.{had_of}
use Rattle.net_script.specs.Scripts.{ScriptOf}
use Rattle.frame_codec.specs.Reading.{frame_of}
use Rattle.wire_set.specs.WireState.{place as port_place, wire_out, fail_at, repair_at, lose_on, again_on, swap_on}
use Rattle.wire_set.specs.WireState as wire_state
use Rattle.switch_core.specs.Switch.{SwitchOf, StartOf, started_as, at_port, finish_of, note_of}
use Rattle.switch_core.specs.Steps.{Step, still, loaded}
use Rattle.switch_core.specs.Bytes.{all_spelled}
use Rattle.switch_core.specs.declared.switch.TableFor.{TableFor}
use Rattle.net_state.specs.declared.hand.Hand.{Hand}
use Rattle.net_state.specs.declared.hand.Hand.TheVariants as hand
use Rattle.table_build.specs.Made.{table_of, number_in}
use Rattle.net_world.specs.Acts.{Clocks, acted, hears}
use Rattle.net_state.specs.Fabric.{FabricOf, StationOf, station, held_bytes, life_of}
use Rattle.net_state.specs.Lawful.{is_lawful}
use Rattle.net_state.specs.Effects.{after_tick, after_clock, after_take, after_handle, after_load, after_restart}
use Rattle.net_state.specs.Effects.{on_wires, noise_out, after_send, after_move}

-- the state of a network: its fabric, and what each switch depends on; switches are known by their index in the script,
-- from 0
pub record WorldOf : Type 0 where
  pub fabric : FabricOf
  pub switches : ℕ → SwitchOf

-- what the switch at index `place` is started with in its life of this boot
abbrev pub start_of : ScriptOf → ℕ → ℕ → StartOf
start_of script place boot = record {
  life = life_of script place boot;
  epoch = script.epoch;
  had = had_of script.wires place;
  any = script.any_routes;
}

-- the switch at index `place` when it starts its life of this boot
abbrev pub started_at : ScriptOf → ℕ → ℕ → SwitchOf
started_at script place boot = started_as (start_of script place boot)

-- the station of the switch at index `place` at the start: nothing is held, no table is in use, and its first clock
-- event is due
abbrev pub first_station : ScriptOf → ℕ → StationOf
first_station script place = record {
  hand = hand.Empty;
  clock = 0;
  table = None;
  note = note_of (started_at script place 1);
  spent = false;
}

-- the world of a script before any event: all links are up, and the wires are empty
abbrev pub begun : ScriptOf → WorldOf
begun script = record {
  fabric = record {
    script = script;
    tick = 0;
    wires = wire_state.start script.wires script.limits.blocks;
    stations = map (first_station script) (range_with_len 0 (length script.wires.switches));
    packets = [];
    sent = 0;
    done = 0;
    since = 0;
    events = 0;
  };
  switches = λ place. started_at script place 1;
}

-- the step of a switch for the bytes that came in on `port`, by the frame that they are, if they are one
abbrev pub handles_bytes : ℕ → Option Frame → SwitchOf → Step
handles_bytes port frame switch = acted (hears port frame) switch

-- the step of a switch that handles what it holds: a clock event, or bytes; bytes that are no frame do nothing
unfoldable pub handles : Hand → List ℕ → SwitchOf → Step
handles hand.Empty bytes switch = still switch
handles (hand.Clock now samples) bytes switch = acted (Clocks now samples) switch
handles (hand.Frame port) bytes switch = handles_bytes port (frame_of bytes) switch

-- the step of the switch at index `place` in the world, when it handles what it holds
abbrev pub handled : ℕ → WorldOf → Step
handled place world =
    handles (station world.fabric place).hand (held_bytes world.fabric place) (world.switches place)

-- the world after a step of the switch at index `place`
abbrev pub stepped : ℕ → Step → WorldOf → WorldOf
stepped place step world = record {
  fabric = after_handle place (all_spelled step.frames) (note_of step.switch) step.switch.spent world.fabric;
  switches = at_port place step.switch world.switches;
}

-- the table of the topology that a switch has finished with, for its current epoch
abbrev pub table_for : TopoOf → SwitchOf → TableFor
table_for topo switch = record { epoch = switch.epoch; table = table_of topo switch.any switch.life }

-- the world after the table of this topology is loaded; unchanged if there is none
abbrev pub loads_with : Option TopoOf → ℕ → WorldOf → WorldOf
loads_with None place world = world
loads_with (Some topo) place world = record {
  fabric = after_load place (table_for topo (world.switches place))
      (note_of (loaded (number_in topo (world.switches place).life) (world.switches place))) world.fabric;
  switches =
      at_port place (loaded (number_in topo (world.switches place).life) (world.switches place))
      world.switches;
}

-- the next life of the switch at index `place`
abbrev pub next_life : ℕ → WorldOf → SwitchOf
next_life place world = started_at world.fabric.script place ((world.switches place).life.boot + 1)

-- the world after the switch at index `place` starts its next life
abbrev pub restarts : ℕ → WorldOf → WorldOf
restarts place world = record {
  fabric = after_restart place (note_of (next_life place world)) world.fabric;
  switches = at_port place (next_life place world) world.switches;
}

-- the world after only its fabric changes
abbrev pub in_fabric : (FabricOf → FabricOf) → WorldOf → WorldOf
in_fabric change world = record world { fabric = change world.fabric }

-- the effect of a lawful event on the world
unfoldable pub effect : Event → WorldOf → WorldOf
effect Tick world = in_fabric after_tick world
effect (Clock place) world = in_fabric (after_clock place) world
effect (Take place port) world = in_fabric (after_take place port) world
effect (Handle place) world = stepped place (handled place world) world
effect (Load place) world = loads_with (finish_of (world.switches place)) place world
effect (Fail place port) world = in_fabric (on_wires (fail_at (port_place place port))) world
effect (Repair place port) world = in_fabric (on_wires (repair_at (port_place place port))) world
effect (Lose place port times) world =
    in_fabric (on_wires (lose_on (wire_out world.fabric.wires place port) times)) world
effect (Again place port times) world =
    in_fabric (on_wires (again_on (wire_out world.fabric.wires place port) times)) world
effect (Swap place port times) world =
    in_fabric (on_wires (swap_on (wire_out world.fabric.wires place port) times)) world
effect (Noise place port bytes) world = in_fabric (on_wires (noise_out place port bytes)) world
effect (Send from to) world = in_fabric (after_send from to) world
effect (Move packet) world = in_fabric (after_move packet) world
effect (Restart place) world = restarts place world

-- the step of the world: an event that is not lawful changes nothing
unfoldable pub step : WorldOf → Event → WorldOf
step world event = if is_lawful world.fabric event then effect event world else world

-- the world after these events, in order
abbrev pub after_all : List Event → WorldOf → WorldOf
after_all [] world = world
after_all (event ∷ events) world = after_all events (step world event)

-- the world after a history, from the start of the network on
unfoldable pub world_after : ScriptOf → List Event → WorldOf
world_after script history = after_all history (begun script)
