-- What switches start with, and the fabric that a network starts with.

use Rattle.std.specs.Prelude.{◌+◌, ℕ, [], map, length, replicate, None, false}
use Rattle.std.specs.List.{range_with_len}
use Rattle.an_base.specs.Values.{LifeId}
use Rattle.an_base.specs.Ports.{NoteOf}
use Rattle.an_base.specs.declared.limits.TheConstants.{PORTS}
use Rattle.net_graph.specs.Wires.{Wires, network}
use Rattle.net_script.specs.Scripts.{ScriptOf}
use Rattle.wire_set.specs.WireState as wire_state
use Rattle.net_state.specs.declared.hand.Hand.TheVariants as hand
use Rattle.net_state.specs.Fabric.{FabricOf, StationOf, life_of, no_view, station}

-- what a switch shows of itself when it starts: twelve dead ports, and nothing to load or to be acknowledged
abbrev pub started_note : LifeId → ℕ → NoteOf
started_note life epoch = record {
  life = life;
  epoch = epoch;
  ports = replicate PORTS no_view;
  load_due = false;
  unacked = false;
}

-- the next life of the switch at index `place`, one boot after the one that it shows
abbrev pub next_life_at : FabricOf → ℕ → LifeId
next_life_at fabric place = life_of fabric.script place ((station fabric place).note.life.boot + 1)

-- what the switch at index `place` shows when it starts its next life
abbrev pub next_note_at : FabricOf → ℕ → NoteOf
next_note_at fabric place = started_note (next_life_at fabric place) fabric.script.epoch

-- the station of a switch of a wiring in its first life: nothing is held or in use, and the clock event is due
abbrev pub begun_station : Wires → ℕ → ℕ → StationOf
begun_station wires epoch place = record {
  hand = hand.Empty;
  clock = 0;
  table = None;
  note = started_note ((network wires).life place) epoch;
  spent = false;
}

-- the fabric at the start: all links are up, and the wires are empty
abbrev pub begun_fabric : ScriptOf → FabricOf
begun_fabric script = record {
  script = script;
  tick = 0;
  wires = wire_state.start script.wires script.limits.blocks;
  stations =
      map (begun_station script.wires script.epoch) (range_with_len 0 (length script.wires.switches));
  packets = [];
  sent = 0;
  done = 0;
  since = 0;
  events = 0;
}
