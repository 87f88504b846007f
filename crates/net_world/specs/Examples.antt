-- Histories that were worked out apart from these definitions, with all lines that report them.

use Rattle.std.specs.Prelude.{◌≡◌, List, [], ◌∷◌, Some, None, codes}
use Rattle.an_base.specs.declared.event.Event.{Event}
use Rattle.an_base.specs.declared.event.Event.TheVariants.{Tick, Clock, Take, Handle, Load, Fail, Repair, Lose, Again, Swap, Send, Move, Restart}
use Rattle.an_base.specs.declared.port.PortState.TheVariants as state
use Rattle.net_script.specs.Scripts.{ScriptOf, empty_script}
use Rattle.wire_set.specs.declared.side.Loss.TheVariants as loss
use Rattle.table_build.specs.Tables.{TableOf}
use Rattle.net_state.specs.declared.ending.Ending.{Ending}
use Rattle.host_traffic.specs.declared.hop.DropCause.TheVariants as cause
use Rattle.net_state.specs.declared.line.Line.{Line}
use Rattle.net_state.specs.declared.line.Line.TheVariants as line
use Rattle.net_world.specs.Lines.{all_lines}
use Rattle.net_world.specs.World.{begun}
use Rattle.net_world.specs.Histories.{IsLegal}

-- the history is lawful and has this ending, and these lines report it
pub record IsWorkedOut (script : ScriptOf) (history : List Event) (end : Ending)
    (lines : List Line) : Type 0 where
  pub legal : IsLegal script history end
  pub told : all_lines (begun script) history ≡ lines

-- a single switch
abbrev pub one_switch : ScriptOf
one_switch = record empty_script {
  wires = record { switches = record { uid = 1; had = 1 } ∷ []; links = []; hosts = [] };
  switch_names = codes "A" ∷ [];
}

-- two switches with a link
abbrev pub two_switches : ScriptOf
two_switches = record empty_script {
  wires = record {
    switches = record { uid = 1; had = 1 } ∷ record { uid = 2; had = 1 } ∷ [];
    links = record { a = 0; a_port = 1; b = 1; b_port = 1 } ∷ [];
    hosts = [];
  };
  switch_names = codes "A" ∷ codes "B" ∷ [];
}

-- a single switch, which is restarted at tick 3 and settles again
abbrev pub restart_script : ScriptOf
restart_script = record one_switch { commands = record { time = 3; event = Restart 0 } ∷ [] }

abbrev pub restart_history : List Event
restart_history =
    Clock 0 ∷ Handle 0 ∷ Load 0 ∷ Tick ∷ Clock 0 ∷ Handle 0 ∷ Tick ∷ Clock 0 ∷ Handle 0 ∷ Tick ∷
    Restart 0 ∷ Clock 0 ∷ Handle 0 ∷ Load 0 ∷ []

abbrev pub restart_lines : List Line
restart_lines =
    line.Join 0 1 ∷
    line.Finish 0 1 (record { uid = 1; boot = 1 }) 1 ∷
    line.Load 0 1 1 ∷
    line.Restarted 0 ∷
    line.Join 0 1 ∷
    line.Finish 0 1 (record { uid = 1; boot = 2 }) 1 ∷
    line.Load 0 1 1 ∷ []

-- a switch with two hosts, which send packets to each other
abbrev pub packets_script : ScriptOf
packets_script = record one_switch {
  wires = record one_switch.wires {
    hosts =
        record { uid = 1099511627777; s = 0; port = 11 } ∷
        record { uid = 1099511627778; s = 0; port = 12 } ∷ [];
  };
  names_of_hosts = codes "H" ∷ codes "G" ∷ [];
  commands =
      record { time = 2; event = Send 0 1 } ∷
      record { time = 3; event = Send 1 0 } ∷
      record { time = 3; event = Send 0 1 } ∷ [];
}

abbrev pub packets_history : List Event
packets_history =
    Clock 0 ∷ Handle 0 ∷ Load 0 ∷ Tick ∷ Clock 0 ∷ Handle 0 ∷ Tick ∷ Clock 0 ∷ Handle 0 ∷ Send 0 1 ∷
    Move 1 ∷ Tick ∷ Clock 0 ∷ Handle 0 ∷ Send 1 0 ∷ Send 0 1 ∷ Move 2 ∷ Move 3 ∷ []

abbrev pub packets_lines : List Line
packets_lines =
    line.Port 0 11 state.Checking None ∷
    line.Port 0 12 state.Checking None ∷
    line.Join 0 1 ∷
    line.Finish 0 1 (record { uid = 1; boot = 1 }) 1 ∷
    line.Load 0 1 1 ∷
    line.Port 0 11 state.Host None ∷
    line.Port 0 12 state.Host None ∷
    line.Packet 1 0 1 28 ∷
    line.Moved 1 0 1 11 12 (Some 1) ∷
    line.Packet 2 1 0 27 ∷
    line.Packet 3 0 1 28 ∷
    line.Moved 2 0 1 12 11 (Some 0) ∷
    line.Moved 3 0 1 11 12 (Some 1) ∷ []

-- a switch that is started in the last epoch
abbrev pub spent_script : ScriptOf
spent_script = record one_switch { epoch = 18446744073709551615 }

abbrev pub spent_history : List Event
spent_history = Clock 0 ∷ Handle 0 ∷ []

abbrev pub spent_lines : List Line
spent_lines = line.Spent 0 ∷ []

-- a network with room for three events
abbrev pub full_script : ScriptOf
full_script = record one_switch { limits = record one_switch.limits { events = 3 } }

abbrev pub full_history : List Event
full_history = Clock 0 ∷ Handle 0 ∷ []

abbrev pub full_lines : List Line
full_lines =
    line.Join 0 1 ∷
    line.Finish 0 1 (record { uid = 1; boot = 1 }) 1 ∷ []

-- a network that has one tick, so that some commands are never due; a packet is dropped, and a link goes down
abbrev pub unsettled_script : ScriptOf
unsettled_script = record empty_script {
  wires = record {
    switches = record { uid = 21; had = 1 } ∷ [];
    links = record { a = 0; a_port = 1; b = 0; b_port = 5 } ∷ [];
    hosts =
        record { uid = 31; s = 0; port = 3 } ∷
        record { uid = 25; s = 0; port = 2 } ∷
        record { uid = 27; s = 0; port = 4 } ∷ [];
  };
  switch_names = codes "A" ∷ [];
  names_of_hosts = codes "H" ∷ codes "G" ∷ codes "K" ∷ [];
  commands =
      record { time = 0; event = Send 0 1 } ∷
      record { time = 1; event = Repair 0 5 } ∷
      record { time = 1; event = Fail 0 5 } ∷
      record { time = 71; event = Repair 0 5 } ∷
      record { time = 73; event = Repair 0 4 } ∷
      record { time = 143; event = Repair 0 1 } ∷
      record { time = 213; event = Fail 0 2 } ∷
      record { time = 213; event = Restart 0 } ∷ [];
  limits = record empty_script.limits { ticks = 1; events = 60000 };
}

abbrev pub unsettled_history : List Event
unsettled_history =
    Send 0 1 ∷ Clock 0 ∷ Handle 0 ∷ Load 0 ∷ Tick ∷ Repair 0 5 ∷ Fail 0 5 ∷ Clock 0 ∷ Handle 0 ∷ []

abbrev pub unsettled_lines : List Line
unsettled_lines =
    line.Unsent 1 0 1 cause.NoPort ∷
    line.Port 0 1 state.Checking None ∷
    line.Port 0 2 state.Checking None ∷
    line.Port 0 3 state.Checking None ∷
    line.Port 0 4 state.Checking None ∷
    line.Port 0 5 state.Checking None ∷
    line.Join 0 1 ∷
    line.Finish 0 1 (record { uid = 21; boot = 1 }) 1 ∷
    line.Load 0 1 1 ∷
    line.Mended 0 5 ∷
    line.Cut 0 5 0 ∷
    line.Port 0 1 state.Dead None ∷
    line.Port 0 2 state.Host None ∷
    line.Port 0 3 state.Host None ∷
    line.Port 0 4 state.Host None ∷
    line.Port 0 5 state.Dead None ∷ []

-- two switches, on whose link a frame is lost, one is copied and two are exchanged
abbrev pub told_script : ScriptOf
told_script = record two_switches {
  commands =
      record { time = 2; event = Lose 0 1 1 } ∷
      record { time = 2; event = Again 1 1 2 } ∷
      record { time = 2; event = Swap 0 1 1 } ∷ [];
}

abbrev pub told_history : List Event
told_history =
    Clock 0 ∷ Handle 0 ∷ Clock 1 ∷ Handle 1 ∷ Load 1 ∷ Load 0 ∷ Tick ∷ Clock 0 ∷ Clock 1 ∷ Handle 0 ∷
    Handle 1 ∷ Take 0 1 ∷ Handle 0 ∷ Take 1 1 ∷ Handle 1 ∷ Take 1 1 ∷ Handle 1 ∷ Take 0 1 ∷ Handle 0 ∷
    Tick ∷ Clock 0 ∷ Handle 0 ∷ Clock 1 ∷ Lose 0 1 1 ∷ Again 1 1 2 ∷ Handle 1 ∷ Swap 0 1 1 ∷ Take 1 1 ∷
    Handle 1 ∷ Take 0 1 ∷ Handle 0 ∷ Take 0 1 ∷ Take 1 1 ∷ Handle 1 ∷ Handle 0 ∷ Take 1 1 ∷ Handle 1 ∷
    Take 1 1 ∷ Handle 1 ∷ Take 0 1 ∷ Handle 0 ∷ Take 0 1 ∷ Handle 0 ∷ Take 0 1 ∷ Handle 0 ∷ Take 1 1 ∷
    Handle 1 ∷ Take 0 1 ∷ Handle 0 ∷ Take 0 1 ∷ Take 1 1 ∷ Handle 0 ∷ Take 0 1 ∷ Handle 1 ∷ Handle 0 ∷
    Take 1 1 ∷ Handle 1 ∷ Take 1 1 ∷ Take 0 1 ∷ Handle 1 ∷ Take 1 1 ∷ Handle 1 ∷ Handle 0 ∷ Take 0 1 ∷
    Handle 0 ∷ Take 0 1 ∷ Handle 0 ∷ Load 0 ∷ Take 1 1 ∷ Handle 1 ∷ Take 1 1 ∷ Handle 1 ∷ Take 0 1 ∷
    Load 1 ∷ Handle 0 ∷ []

abbrev pub told_lines : List Line
told_lines =
    line.Port 0 1 state.Checking None ∷
    line.Join 0 1 ∷
    line.Finish 0 1 (record { uid = 1; boot = 1 }) 1 ∷
    line.Port 1 1 state.Checking None ∷
    line.Join 1 1 ∷
    line.Finish 1 1 (record { uid = 2; boot = 1 }) 1 ∷
    line.Load 1 1 1 ∷
    line.Load 0 1 1 ∷
    line.Port 0 1 state.Who None ∷
    line.Port 1 1 state.Who None ∷
    line.Port 0 1 state.Good (Some (record { life = record { uid = 2; boot = 1 }; port = 1 })) ∷
    line.Join 0 2 ∷
    line.Port 1 1 state.Good (Some (record { life = record { uid = 1; boot = 1 }; port = 1 })) ∷
    line.Join 1 2 ∷
    line.Lost 0 1 loss.Told ∷
    line.Finish 0 2 (record { uid = 1; boot = 1 }) 2 ∷
    line.Load 0 2 1 ∷
    line.Finish 1 2 (record { uid = 1; boot = 1 }) 2 ∷
    line.Load 1 2 2 ∷ []

-- the table that the first switch then uses
abbrev pub first_table : TableOf
first_table = record {
  number = 1;
  rows =
      record { at = 1; entry = 0; to = 2; exits = 1 ∷ [] } ∷
      record { at = 1; entry = 1; to = 2; exits = 1 ∷ [] } ∷ [];
}

-- the table that the second switch then uses
abbrev pub second_table : TableOf
second_table = record {
  number = 2;
  rows =
      record { at = 2; entry = 0; to = 1; exits = 1 ∷ [] } ∷
      record { at = 2; entry = 1; to = 1; exits = [] } ∷ [];
}

-- two linked switches with a host each, which send packets to each other over the link
abbrev pub routed_script : ScriptOf
routed_script = record two_switches {
  wires = record two_switches.wires {
    hosts =
        record { uid = 1099511627777; s = 0; port = 11 } ∷
        record { uid = 1099511627778; s = 1; port = 12 } ∷ [];
  };
  names_of_hosts = codes "H" ∷ codes "G" ∷ [];
  commands =
      record { time = 4; event = Send 0 1 } ∷
      record { time = 4; event = Send 1 0 } ∷ [];
}

abbrev pub routed_history : List Event
routed_history =
    Clock 0 ∷ Handle 0 ∷ Load 0 ∷ Clock 1 ∷ Handle 1 ∷ Load 1 ∷ Tick ∷ Clock 0 ∷ Handle 0 ∷ Clock 1 ∷
    Handle 1 ∷ Take 1 1 ∷ Handle 1 ∷ Take 0 1 ∷ Handle 0 ∷ Take 0 1 ∷ Handle 0 ∷ Take 1 1 ∷ Handle 1 ∷
    Tick ∷ Clock 0 ∷ Handle 0 ∷ Clock 1 ∷ Handle 1 ∷ Take 1 1 ∷ Handle 1 ∷ Take 1 1 ∷ Handle 1 ∷
    Take 0 1 ∷ Handle 0 ∷ Take 0 1 ∷ Handle 0 ∷ Take 0 1 ∷ Handle 0 ∷ Take 0 1 ∷ Handle 0 ∷ Take 0 1 ∷
    Handle 0 ∷ Take 0 1 ∷ Handle 0 ∷ Take 1 1 ∷ Handle 1 ∷ Take 1 1 ∷ Handle 1 ∷ Take 1 1 ∷ Handle 1 ∷
    Take 1 1 ∷ Handle 1 ∷ Take 1 1 ∷ Handle 1 ∷ Take 1 1 ∷ Handle 1 ∷ Take 0 1 ∷ Handle 0 ∷ Take 0 1 ∷
    Handle 0 ∷ Take 0 1 ∷ Handle 0 ∷ Load 0 ∷ Take 1 1 ∷ Handle 1 ∷ Take 1 1 ∷ Handle 1 ∷ Load 1 ∷
    Take 0 1 ∷ Handle 0 ∷ Tick ∷ Clock 0 ∷ Handle 0 ∷ Clock 1 ∷ Handle 1 ∷ Take 1 1 ∷ Handle 1 ∷
    Take 0 1 ∷ Handle 0 ∷ Take 0 1 ∷ Handle 0 ∷ Take 1 1 ∷ Handle 1 ∷ Tick ∷ Send 0 1 ∷ Send 1 0 ∷
    Move 1 ∷ Move 1 ∷ Move 2 ∷ Move 2 ∷ Clock 0 ∷ Handle 0 ∷ Clock 1 ∷ Handle 1 ∷ Take 1 1 ∷ Handle 1 ∷
    Take 0 1 ∷ Handle 0 ∷ Take 0 1 ∷ Handle 0 ∷ Take 1 1 ∷ Handle 1 ∷ []

abbrev pub routed_lines : List Line
routed_lines =
    line.Port 0 1 state.Checking None ∷
    line.Port 0 11 state.Checking None ∷
    line.Join 0 1 ∷
    line.Finish 0 1 (record { uid = 1; boot = 1 }) 1 ∷
    line.Load 0 1 1 ∷
    line.Port 1 1 state.Checking None ∷
    line.Port 1 12 state.Checking None ∷
    line.Join 1 1 ∷
    line.Finish 1 1 (record { uid = 2; boot = 1 }) 1 ∷
    line.Load 1 1 1 ∷
    line.Port 0 1 state.Who None ∷
    line.Port 0 11 state.Host None ∷
    line.Port 1 1 state.Who None ∷
    line.Port 1 12 state.Host None ∷
    line.Port 0 1 state.Good (Some (record { life = record { uid = 2; boot = 1 }; port = 1 })) ∷
    line.Join 0 2 ∷
    line.Port 1 1 state.Good (Some (record { life = record { uid = 1; boot = 1 }; port = 1 })) ∷
    line.Join 1 2 ∷
    line.Finish 0 2 (record { uid = 1; boot = 1 }) 2 ∷
    line.Load 0 2 1 ∷
    line.Finish 1 2 (record { uid = 1; boot = 1 }) 2 ∷
    line.Load 1 2 2 ∷
    line.Packet 1 0 1 44 ∷
    line.Packet 2 1 0 27 ∷
    line.Moved 1 0 2 11 1 None ∷
    line.Moved 1 1 2 1 12 (Some 1) ∷
    line.Moved 2 1 2 12 1 None ∷
    line.Moved 2 0 2 1 11 (Some 0) ∷ []
