-- The lines that report an event, as far as the fabric knows: lost frames, packets and commands.

use Rattle.std.specs.Prelude.{◌+◌, ℕ, List, [], ◌∷◌, ◌++◌, Option, Some, None, Result, Ok, Err, if◌then◌else◌}
use Rattle.std.specs.Option.{option_map_or}
use Rattle.an_base.specs.declared.event.Event.{Event}
use Rattle.an_base.specs.declared.event.Event.TheVariants.{Fail, Repair, Noise, Send}
use Rattle.wire_set.specs.declared.side.Put.{Put}
use Rattle.wire_set.specs.declared.side.Put.TheVariants as put
use Rattle.wire_set.specs.WireState.{WiresOf, place as port_place, side_at, is_link, wire_out, what_becomes}
use Rattle.wire_set.specs.WireState.{dropped_at, held_from, taken_frame, what_copy_becomes}
use Rattle.switch_core.specs.Bytes.{BytesOut}
use Rattle.host_traffic.specs.declared.hop.Hop.{Hop}
use Rattle.host_traffic.specs.declared.hop.Hop.TheVariants as hop
use Rattle.host_traffic.specs.declared.hop.DropCause.{DropCause}
use Rattle.host_traffic.specs.Packets.{PacketOf}
use Rattle.net_state.specs.declared.line.Line.{Line}
use Rattle.net_state.specs.declared.line.Line.TheVariants as line
use Rattle.net_state.specs.Fabric.{FabricOf, station, host_on, side_of_port, switch_behind}
use Rattle.net_state.specs.Effects.{address_for, hop_of, noise, put_out}

-- the line for a frame that was put on the wire out of a port, if it was lost
abbrev pub loss_line : ℕ → ℕ → Put → List Line
loss_line place port put.Kept = []
loss_line place port (put.Lost cause) = line.Lost place port cause ∷ []

-- the line for a frame that was put on the wire out of a switch, if it was lost
abbrev pub lost_line : ℕ → BytesOut → WiresOf → List Line
lost_line place out wires =
    if is_link (side_at wires (port_place place out.port)).far
    then loss_line place out.port
    (what_becomes (port_place place out.port) (wire_out wires place out.port) out.bytes wires)
    else []

-- the lines for the frames that were lost, of those put in order on the wires out of a switch
abbrev pub lost_lines : ℕ → List BytesOut → WiresOf → List Line
lost_lines place [] wires = []
lost_lines place (out ∷ more) wires =
    lost_line place out wires ++ lost_lines place more (put_out place out wires)

-- the line for a copy of a frame that was taken, if it was lost; it names the end that sent the frame
abbrev pub copy_line : Option (ℕ × ℕ) → Option Put → List Line
copy_line None what = []
copy_line (Some far) None = []
copy_line (Some far) (Some what) = loss_line far.0 far.1 what

-- the line for the copy of a frame that a switch takes from `port`, if it is lost
abbrev pub take_lines : ℕ → ℕ → FabricOf → List Line
take_lines place port fabric =
    let wire : ℕ = port_place place port in
    copy_line (switch_behind (side_of_port fabric place port).far)
    (what_copy_becomes wire (taken_frame wire fabric.wires) (held_from wire (port_place place 0) fabric.wires))

-- the line for packet `packet`, which a host sends to another one: it has this address, or none for this reason
abbrev pub sent_line : (packet from to : ℕ) → Result ℕ DropCause → Line
sent_line packet from to (Ok address) = line.Packet packet from to address
sent_line packet from to (Err why) = line.Unsent packet from to why

-- the line for the packet that a host sends to another one
abbrev pub send_line : ℕ → ℕ → FabricOf → Line
send_line from to fabric = sent_line (fabric.sent + 1) from to
    (address_for fabric (host_on fabric from) (host_on fabric to))

-- the line for a hop of a packet at index `place`, where it came in on port `entry` and a table of `epoch` is in use
abbrev pub hop_line : (packet place epoch entry : ℕ) → Hop → Line
hop_line packet place epoch entry (hop.Went exit) = line.Moved packet place epoch entry exit None
hop_line packet place epoch entry (hop.Delivered exit host) =
    line.Moved packet place epoch entry exit (Some host)
hop_line packet place epoch entry (hop.Dropped why) = line.Fell packet place why

-- the epoch of the table in use at index `place`, 0 if there is none
abbrev pub epoch_in_use : FabricOf → ℕ → ℕ
epoch_in_use fabric place = option_map_or (λ table. table.epoch) (station fabric place).table 0

-- the line for the next hop of this packet, if there is one
abbrev pub move_lines : Option PacketOf → FabricOf → List Line
move_lines None fabric = []
move_lines (Some packet) fabric =
    hop_line packet.packet packet.at (epoch_in_use fabric packet.at) packet.entry (hop_of fabric packet) ∷ []

-- the lines for a command other than a restart
abbrev pub command_lines : Event → FabricOf → List Line
command_lines (Fail place port) fabric =
    line.Cut place port (dropped_at (port_place place port) fabric.wires) ∷ []
command_lines (Repair place port) fabric = line.Mended place port ∷ []
command_lines (Noise place port bytes) fabric = loss_line place port
    (what_becomes (port_place place port) (wire_out fabric.wires place port) (noise bytes) fabric.wires)
command_lines (Send from to) fabric = send_line from to fabric ∷ []
command_lines event fabric = []
