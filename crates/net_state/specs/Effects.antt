-- The effect of each event on the fabric.

use Rattle.std.specs.Prelude.{◌≡◌, ◌≢◌, ◌+◌, ◌-◌, ◌*◌, ◌==◌, ◌≤◌, ℕ, List, [], ◌∷◌, ◌++◌, replicate, slice_index_or, Option, Some, None, is_some, Result, Ok, Err, Bool, true, false, if◌then◌else◌}
use Rattle.std.specs.Option.{option_map_or}
use Rattle.an_base.specs.Ports.{NoteOf}
use Rattle.an_base.specs.declared.event.Event.{Event}
use Rattle.an_base.specs.declared.event.Event.TheVariants.{Fail, Repair, Lose, Again, Swap, Noise, Send}
use Rattle.net_graph.specs.declared.wiring.HostOn.{HostOn}
use Rattle.wire_set.specs.WireState.{WiresOf, place as port_place, side_at, is_link, wire_out}
use Rattle.wire_set.specs.WireState.{put_into, take_from, release_from, fail_at, repair_at}
use Rattle.wire_set.specs.WireState.{lose_on, again_on, swap_on}
use Rattle.switch_core.specs.Bytes.{BytesOut}
use Rattle.switch_core.specs.declared.switch.TableFor.{TableFor}
use Rattle.table_build.specs.Tables.{TableOf}
use Rattle.host_traffic.specs.declared.hop.Hop.{Hop}
use Rattle.host_traffic.specs.declared.hop.DropCause.{DropCause}
use Rattle.host_traffic.specs.declared.hop.DropCause.TheVariants as cause
use Rattle.host_traffic.specs.Packets.{PacketOf, packet_of, hop_in, hopped_in}
use Rattle.net_state.specs.declared.hand.Hand.{Hand}
use Rattle.net_state.specs.declared.hand.Hand.TheVariants as hand
use Rattle.net_state.specs.Fabric.{FabricOf, StationOf, station, with_station, samples_of, host_on, host_at}
use Rattle.net_state.specs.Fabric.{next_at, no_view, table_at}

-- the fabric with one event more
abbrev pub counted : FabricOf → FabricOf
counted fabric = record fabric { since = fabric.since + 1; events = fabric.events + 1 }

-- the fabric with one command more done
abbrev pub done_command : FabricOf → FabricOf
done_command fabric = counted (record fabric { done = fabric.done + 1 })

-- the fabric after a tick
abbrev pub after_tick : FabricOf → FabricOf
after_tick fabric = record fabric { tick = fabric.tick + 1; since = 0; events = fabric.events + 1 }

-- the fabric after a switch takes its clock event, with the current samples
abbrev pub after_clock : ℕ → FabricOf → FabricOf
after_clock place fabric = counted (with_station place
    (record (station fabric place) {
      hand = hand.Clock fabric.tick (samples_of fabric place);
      clock = fabric.tick + 1;
    })
    fabric)

-- the fabric after a switch takes a frame from `port`
abbrev pub after_take : ℕ → ℕ → FabricOf → FabricOf
after_take place port fabric = counted (with_station place
    (record (station fabric place) { hand = hand.Frame port })
    (record fabric { wires = take_from (port_place place port) (port_place place 0) fabric.wires }))

-- the wires after what a switch held is dropped
abbrev pub released : Hand → ℕ → WiresOf → WiresOf
released hand.Empty place wires = wires
released (hand.Clock now samples) place wires = wires
released (hand.Frame port) place wires = release_from (port_place place 0) wires

-- the wires after a frame is put on the wire out of a switch; a port without a link of two switch ports has no wire
abbrev pub put_out : ℕ → BytesOut → WiresOf → WiresOf
put_out place out wires =
    if is_link (side_at wires (port_place place out.port)).far
    then put_into (port_place place out.port) (wire_out wires place out.port) out.bytes wires
    else wires

-- the wires after frames are put, in order, on the wires out of a switch
abbrev pub all_put_out : ℕ → List BytesOut → WiresOf → WiresOf
all_put_out place [] wires = wires
all_put_out place (out ∷ more) wires = all_put_out place more (put_out place out wires)

-- the table in use, if it stays in use
abbrev pub kept_table : Bool → Option TableFor → Option TableFor
kept_table stays table = if stays then table else None

-- the station after its switch shows this; if another epoch was joined, the table goes out of use
abbrev pub showing : NoteOf → Bool → StationOf → StationOf
showing note spent at = record at {
  table = kept_table (note.epoch == at.note.epoch) at.table;
  note = note;
  spent = spent;
}

-- only `port` can be shown differently than before: the life is the same, and every other port is shown as before
pub record ShowsOnly (port : ℕ) (before after : NoteOf) : Type 0 where
  pub life : after.life ≡ before.life
  pub others : (other : ℕ) → 1 ≤ other → other ≢ port
      → slice_index_or after.ports (other - 1) no_view ≡ slice_index_or before.ports (other - 1) no_view

-- the fabric after a switch has handled what it held: these frames go out, and this is what it shows
abbrev pub after_handle : ℕ → List BytesOut → NoteOf → Bool → FabricOf → FabricOf
after_handle place frames note spent fabric = counted (with_station place
    (record (showing note spent (station fabric place)) { hand = hand.Empty })
    (record fabric {
      wires = all_put_out place frames (released (station fabric place).hand place fabric.wires);
    }))

-- the fabric after a switch loads a table
abbrev pub after_load : ℕ → TableFor → NoteOf → FabricOf → FabricOf
after_load place table note fabric =
    counted (with_station place (record (station fabric place) { table = Some table; note = note }) fabric)

-- the fabric after the first of the three parts of handling: what the switch held is dropped; then frames are put on
-- wires one by one, and the switch shows the result
abbrev pub emptied : ℕ → FabricOf → FabricOf
emptied place fabric = with_station place (record (station fabric place) { hand = hand.Empty })
    (record fabric { wires = released (station fabric place).hand place fabric.wires })

-- the fabric after the last of the three parts of handling: the switch shows this, and the event is counted
abbrev pub shows : ℕ → NoteOf → Bool → FabricOf → FabricOf
shows place note spent fabric =
    counted (with_station place (showing note spent (station fabric place)) fabric)

-- the wires that the frames of a switch go out on: what it held is dropped
abbrev pub wires_at_hand : FabricOf → ℕ → WiresOf
wires_at_hand fabric place = released (station fabric place).hand place fabric.wires

-- the station after its switch starts its next life: its clock event is due, and it uses no table
abbrev pub restarted : ℕ → NoteOf → StationOf → StationOf
restarted tick note at = record at { clock = tick; table = None; note = note; spent = false }

-- the fabric after a switch starts its next life
abbrev pub after_restart : ℕ → NoteOf → FabricOf → FabricOf
after_restart place note fabric =
    done_command (with_station place (restarted fabric.tick note (station fabric place)) fabric)

-- the fabric after a command that changes links and wires
abbrev pub on_wires : (WiresOf → WiresOf) → FabricOf → FabricOf
on_wires change fabric = done_command (record fabric { wires = change fabric.wires })

-- bytes that do not form a frame
abbrev pub noise : ℕ → List ℕ
noise bytes = replicate bytes 0

-- the wires after such bytes are put on the wire out of a switch
abbrev pub noise_out : ℕ → ℕ → ℕ → WiresOf → WiresOf
noise_out place port bytes wires =
    put_into (port_place place port) (wire_out wires place port) (noise bytes) wires

-- the address of a port of the switch that has this table
abbrev pub address_of : TableOf → ℕ → ℕ
address_of table port = table.number * 16 + port

-- the address of a packet between two hosts: there is one if the port of the first shows a host, and the switch of the
-- other has a table in use
abbrev pub address_for : FabricOf → HostOn → HostOn → Result ℕ DropCause
address_for fabric from to =
    if is_some (host_at fabric from.s from.port)
    then option_map_or (λ table. Ok (address_of table to.port)) (table_at fabric to.s) (Err cause.NoTable)
    else Err cause.NoPort

-- a packet as it is sent to this address
abbrev pub packet_to : ℕ → HostOn → HostOn → ℕ → PacketOf
packet_to number from to address = record {
  packet = number;
  at = from.s;
  entry = from.port;
  is_new = true;
  address = address;
  uid = to.uid;
}

-- the packet in flight, if it has an address
abbrev pub admitted_as : ℕ → HostOn → HostOn → Result ℕ DropCause → List PacketOf
admitted_as number from to (Ok address) = packet_to number from to address ∷ []
admitted_as number from to (Err why) = []

-- the packet in flight that a host sends to another one, if it has an address
abbrev pub admitted : FabricOf → HostOn → HostOn → List PacketOf
admitted fabric from to = admitted_as (fabric.sent + 1) from to (address_for fabric from to)

-- the fabric after a host sends a packet; the packet takes the next number, even if it has no address
abbrev pub after_send : ℕ → ℕ → FabricOf → FabricOf
after_send from to fabric = done_command (record fabric {
  packets = fabric.packets ++ admitted fabric (host_on fabric from) (host_on fabric to);
  sent = fabric.sent + 1;
})

-- the fabric after a command other than a restart, which belongs to a switch; unchanged after an event that is no
-- command
abbrev pub after_command : Event → FabricOf → FabricOf
after_command (Fail place port) fabric = on_wires (fail_at (port_place place port)) fabric
after_command (Repair place port) fabric = on_wires (repair_at (port_place place port)) fabric
after_command (Lose place port times) fabric =
    on_wires (lose_on (wire_out fabric.wires place port) times) fabric
after_command (Again place port times) fabric =
    on_wires (again_on (wire_out fabric.wires place port) times) fabric
after_command (Swap place port times) fabric =
    on_wires (swap_on (wire_out fabric.wires place port) times) fabric
after_command (Noise place port bytes) fabric = on_wires (noise_out place port bytes) fabric
after_command (Send from to) fabric = after_send from to fabric
after_command event fabric = fabric

-- the next hop of a packet
abbrev pub hop_of : FabricOf → PacketOf → Hop
hop_of fabric packet = hop_in (table_at fabric) (host_at fabric) (next_at fabric) packet

-- the packets in flight after the next hop of this packet; unchanged if there is none
abbrev pub hopped : ℕ → Option PacketOf → FabricOf → List PacketOf
hopped number packet fabric =
    hopped_in (table_at fabric) (host_at fabric) (next_at fabric) number packet fabric.packets

-- the fabric after the packet with this number makes its next hop
abbrev pub after_move : ℕ → FabricOf → FabricOf
after_move number fabric =
    counted (record fabric { packets = hopped number (packet_of number fabric.packets) fabric })
