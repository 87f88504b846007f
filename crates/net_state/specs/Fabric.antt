-- The visible state of a network: its fabric, and what is read from it.

use Rattle.std.specs.Prelude.{◌-◌, ◌&&◌, ℕ, nat_le, nat_lt, not, List, [], map, length, count_by, slice_get, slice_index_or, slice_set, Option, Some, None, is_some, Bool, true, false, if◌then◌else◌}
use Rattle.std.specs.List.{list_any, range_with_len}
use Rattle.std.specs.Option.{option_map, option_and_then}
use Rattle.an_base.specs.Values.{LifeId, EndId}
use Rattle.an_base.specs.Ports.{PortViewOf, NoteOf}
use Rattle.an_base.specs.declared.event.Event.{Event}
use Rattle.an_base.specs.declared.port.PortState.TheVariants as state
use Rattle.an_base.specs.declared.port.Sample.{Sample}
use Rattle.an_base.specs.declared.port.Sample.TheVariants as sample
use Rattle.net_graph.specs.declared.wiring.Far.{Far}
use Rattle.net_graph.specs.declared.wiring.Far.TheVariants.{Switch, HostAt}
use Rattle.net_graph.specs.declared.wiring.HostOn.{HostOn}
use Rattle.net_script.specs.declared.command.Command.{Command}
use Rattle.net_script.specs.Scripts.{ScriptOf}
use Rattle.port_monitor.specs.Histories.{externals}
use Rattle.wire_set.specs.declared.side.Side.{Side}
use Rattle.wire_set.specs.WireState.{WiresOf, place as port_place, side_at, hand_of, has_frame_on}
use Rattle.table_build.specs.Tables.{TableOf}
use Rattle.switch_core.specs.declared.switch.TableFor.{TableFor}
use Rattle.net_state.specs.declared.hand.Hand.{Hand}
use Rattle.net_state.specs.declared.hand.Hand.TheVariants as hand
use Rattle.host_traffic.specs.Packets.{PacketOf}
use Rattle.net_state.specs.PortStates.{is_host}
use Rattle.net_graph.specs.Wires.{uid_of}

-- the visible state of a switch: what it holds, the tick at which its next clock event is due, the table in use with
-- the epoch of its topology, what the switch shows of itself, and whether no epoch is left for a change that is due
pub record StationOf : Type 0 where
  pub hand : Hand
  pub clock : ℕ
  pub table : Option TableFor
  pub note : NoteOf
  pub spent : Bool

-- the fabric of a network: its script, which never changes; the clock; the links and wires, with the frames that
-- switches hold; the station of each switch; the packets in flight, in ascending order of number, and the number of
-- packets that were sent; the number of commands that are done; and the numbers of events since the last tick and in
-- all. Switches and hosts are known by their index in the script, from 0; external ports are 1 to 12
pub record FabricOf : Type 0 where
  pub script : ScriptOf
  pub tick : ℕ
  pub wires : WiresOf
  pub stations : List StationOf
  pub packets : List PacketOf
  pub sent : ℕ
  pub done : ℕ
  pub since : ℕ
  pub events : ℕ

-- a port that shows nothing
abbrev pub no_view : PortViewOf
no_view = record { state = state.Dead; peer = None }

-- the life at an index without a switch
abbrev pub no_life : LifeId
no_life = record { uid = 0; boot = 0 }

-- the note at an index without a switch
abbrev pub no_note : NoteOf
no_note = record { life = no_life; epoch = 0; ports = []; load_due = false; unacked = false }

-- the station at an index without a switch
abbrev pub vacant : StationOf
vacant = record { hand = hand.Empty; clock = 0; table = None; note = no_note; spent = false }

-- the station at index `place`, `vacant` past the last
abbrev pub station : FabricOf → ℕ → StationOf
station fabric place = slice_index_or fabric.stations place vacant

-- the fabric with another station at index `place`
abbrev pub with_station : ℕ → StationOf → FabricOf → FabricOf
with_station place new fabric = record fabric { stations = slice_set fabric.stations place new }

-- the number of switches
abbrev pub count : FabricOf → ℕ
count fabric = length fabric.script.wires.switches

-- whether there is a switch at index `place`
abbrev pub is_switch : FabricOf → ℕ → Bool
is_switch fabric place = nat_lt place (count fabric)

-- the indices of all switches
abbrev pub places : FabricOf → List ℕ
places fabric = range_with_len 0 (count fabric)

-- whether the port is an external one
abbrev pub is_external : ℕ → Bool
is_external port = nat_le 1 port && nat_le port 12

-- what a switch shows of a port
abbrev pub port_shown : FabricOf → ℕ → ℕ → PortViewOf
port_shown fabric place port = slice_index_or (station fabric place).note.ports (port - 1) no_view

-- the end of the link at a port of a switch, in its current life
abbrev pub end_shown : FabricOf → ℕ → ℕ → EndId
end_shown fabric place port = record { life = (station fabric place).note.life; port = port }

-- the side of a port
abbrev pub side_of_port : FabricOf → ℕ → ℕ → Side
side_of_port fabric place port = side_at fabric.wires (port_place place port)

-- whether the link of a port is up
abbrev pub is_up : FabricOf → ℕ → ℕ → Bool
is_up fabric place port = (side_of_port fabric place port).is_up

-- what the hardware says of a port with this far end, if the link is up
abbrev pub sample_behind : Option Far → Sample
sample_behind None = sample.Down
sample_behind (Some (Switch place port)) = sample.Switch
sample_behind (Some (HostAt host)) = sample.Host

-- what the hardware says of a port
abbrev pub sample_of : Side → Sample
sample_of side = if side.is_up then sample_behind side.far else sample.Down

-- what the hardware says of the external ports of a switch, in ascending order of port
abbrev pub samples_of : FabricOf → ℕ → List Sample
samples_of fabric place = map (λ port. sample_of (side_of_port fabric place port)) externals

-- whether the hand is empty: the switch holds nothing
abbrev pub is_empty : Hand → Bool
is_empty hand.Empty = true
is_empty (hand.Clock now samples) = false
is_empty (hand.Frame port) = false

-- whether the switch at index `place` holds something
abbrev pub is_full_at : FabricOf → ℕ → Bool
is_full_at fabric place = not (is_empty (station fabric place).hand)

-- the bytes of the frame that the switch holds
abbrev pub held_bytes : FabricOf → ℕ → List ℕ
held_bytes fabric place = slice_index_or (hand_of fabric.wires place) 0 []

-- the number of stations whose switch holds something
abbrev pub full_among : List StationOf → ℕ
full_among stations = count_by (λ at. not (is_empty at.hand)) stations

-- the number of switches that hold something
abbrev pub full_hands : FabricOf → ℕ
full_hands fabric = full_among fabric.stations

-- the number of events that the script still allows, less one for each switch that holds something, which is still to
-- be handled
abbrev pub room : FabricOf → ℕ
room fabric = fabric.script.limits.events - fabric.events - full_hands fabric

-- whether the clock event of a switch is due at `tick`
abbrev pub is_due_at : ℕ → StationOf → Bool
is_due_at tick at = nat_le at.clock tick

-- whether the clock event of a switch is due
abbrev pub is_clock_due : FabricOf → StationOf → Bool
is_clock_due fabric at = is_due_at fabric.tick at

-- whether the clock event of the switch at index `place` is due
abbrev pub clock_due_at : FabricOf → ℕ → Bool
clock_due_at fabric place = is_clock_due fabric (station fabric place)

-- whether a load of the switch at index `place` is due
abbrev pub load_due_at : FabricOf → ℕ → Bool
load_due_at fabric place = (station fabric place).note.load_due

-- whether the wire into a port of a switch has a frame
abbrev pub has_frame : FabricOf → ℕ → ℕ → Bool
has_frame fabric place port = has_frame_on fabric.wires (port_place place port)

-- whether the wire into some external port of a switch has a frame
abbrev pub has_frame_for : FabricOf → ℕ → Bool
has_frame_for fabric place = list_any (has_frame fabric place) externals

-- whether no wire has a frame
abbrev pub are_wires_empty : FabricOf → Bool
are_wires_empty fabric = not (list_any (has_frame_for fabric) (places fabric))

-- the next command of the script, if one is left
abbrev pub next_command : FabricOf → Option Command
next_command fabric = slice_get fabric.script.commands fabric.done

-- the event of a command, if it is due: from its time on
abbrev pub if_due : ℕ → Command → Option Event
if_due now command = if nat_le command.time now then Some command.event else None

-- the event of the next command, if that is due
abbrev pub due_command : FabricOf → Option Event
due_command fabric = option_and_then (if_due fabric.tick) (next_command fabric)

-- whether all commands are done
abbrev pub are_all_done : FabricOf → Bool
are_all_done fabric = not (is_some (next_command fabric))

-- whether some switch is spent
abbrev pub is_some_spent : FabricOf → Bool
is_some_spent fabric = list_any (λ at. at.spent) fabric.stations

-- whether some clock event is due
abbrev pub is_some_clock_due : FabricOf → Bool
is_some_clock_due fabric = list_any (is_clock_due fabric) fabric.stations

-- whether some load is due
abbrev pub is_some_load_due : FabricOf → Bool
is_some_load_due fabric = list_any (λ at. at.note.load_due) fabric.stations

-- whether some switch has a body that is not acknowledged
abbrev pub is_some_unacked : FabricOf → Bool
is_some_unacked fabric = list_any (λ at. at.note.unacked) fabric.stations

-- whether some packet is in flight
abbrev pub is_some_packet : FabricOf → Bool
is_some_packet fabric = nat_lt 0 (length fabric.packets)

-- the table in use at a switch
abbrev pub table_at : FabricOf → ℕ → Option TableOf
table_at fabric place = option_map (λ table. table.table) (station fabric place).table

-- the host at an index without a host
abbrev pub no_host : HostOn
no_host = record { uid = 0; s = 0; port = 0 }

-- the host at an index in the script, from 0
abbrev pub host_on : FabricOf → ℕ → HostOn
host_on fabric host = slice_index_or fabric.script.wires.hosts host no_host

-- the host at the far end of a link, up or down, by its index and identifier
abbrev pub host_behind : FabricOf → Option Far → Option (ℕ × ℕ)
host_behind fabric None = None
host_behind fabric (Some (Switch place port)) = None
host_behind fabric (Some (HostAt host)) = Some (host, (host_on fabric host).uid)

-- the host, by its index and identifier, that a port reaches: the port shows a host, and its link is up
abbrev pub host_at : FabricOf → ℕ → ℕ → Option (ℕ × ℕ)
host_at fabric place port =
    if is_up fabric place port && is_host (port_shown fabric place port).state
    then host_behind fabric (side_of_port fabric place port).far
    else None

-- the switch and port at the far end of a link, up or down
abbrev pub switch_behind : Option Far → Option (ℕ × ℕ)
switch_behind None = None
switch_behind (Some (Switch place port)) = Some (place, port)
switch_behind (Some (HostAt host)) = None

-- the switch and port at the far end of a link, if it is up
abbrev pub next_at : FabricOf → ℕ → ℕ → Option (ℕ × ℕ)
next_at fabric place port =
    if is_up fabric place port then switch_behind (side_of_port fabric place port).far else None

-- the life of the switch at index `place` with this boot, from 1
abbrev pub life_of : ScriptOf → ℕ → ℕ → LifeId
life_of script place boot = record { uid = uid_of script.wires.switches place; boot = boot }
