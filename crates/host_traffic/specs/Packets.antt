-- Packets in flight, and their hops.

use Rattle.std.specs.Prelude.{ℕ, ◌/◌, ◌%◌, ◌==◌, nat_lt, List, [], ◌∷◌, ◌++◌, map, filter, not, Option, Some}
use Rattle.std.specs.Prelude.{None, is_some, Bool, false, if◌then◌else◌}
use Rattle.std.specs.List.{find}
use Rattle.table_build.specs.Tables.{TableOf, exits_of}
use Rattle.host_traffic.specs.declared.hop.Hop.{Hop}
use Rattle.host_traffic.specs.declared.hop.Hop.TheVariants as hop
use Rattle.host_traffic.specs.declared.hop.DropCause.TheVariants as cause

-- a packet in flight: its number; the switch that it is at, and the port that it came in on; whether its host has just
-- sent it; the address that it goes to, and the identifier of the host that it is for
pub record PacketOf : Type 0 where
  pub packet : ℕ
  pub at : ℕ
  pub entry : ℕ
  pub is_new : Bool
  pub address : ℕ
  pub uid : ℕ

-- the packets in flight, in ascending order of number, and the largest number of them at once
pub record TrafficOf : Type 0 where
  pub packets : List PacketOf
  pub most : ℕ

-- the entry of the row that forwards the packet: 0 until its first hop, then its ingress port
abbrev pub row_entry : PacketOf → ℕ
row_entry packet = if packet.is_new then 0 else packet.entry

-- the result at the switch of the packet's address: it is delivered to the host at the port of the address, if it is
-- for that host
abbrev pub delivered_to : ℕ → Option (ℕ × ℕ) → PacketOf → Hop
delivered_to port None packet = hop.Dropped cause.NoHost
delivered_to port (Some host) packet =
    if host.1 == packet.uid then hop.Delivered port host.0 else hop.Dropped cause.WrongHost

-- the result elsewhere: the packet goes through the lowest exit
abbrev pub goes_by : List ℕ → (ℕ → Option (ℕ × ℕ)) → Hop
goes_by [] next = hop.Dropped cause.NoExit
goes_by (port ∷ ports) next = if is_some (next port) then hop.Went port else hop.Dropped cause.LinkDown

-- the next hop of the packet, by the table in use, the host that each port reaches, and the far end of each port
abbrev pub hop_by : Option TableOf → (ℕ → Option (ℕ × ℕ)) → (ℕ → Option (ℕ × ℕ)) → PacketOf → Hop
hop_by None host next packet = hop.Dropped cause.NoTable
hop_by (Some table) host next packet =
    if packet.address / 16 == table.number
    then delivered_to (packet.address % 16) (host (packet.address % 16)) packet
    else goes_by (exits_of table (row_entry packet) (packet.address / 16)) next

-- the next hop of the packet, where these are read from a network by the index of a switch
abbrev pub hop_in :
    (ℕ → Option TableOf) → (ℕ → ℕ → Option (ℕ × ℕ)) → (ℕ → ℕ → Option (ℕ × ℕ)) → PacketOf → Hop
hop_in table host next packet = hop_by (table packet.at) (host packet.at) (next packet.at) packet

-- the switch that the packet is at, and the port that it came in on
abbrev pub place_now : PacketOf → ℕ × ℕ
place_now packet = (packet.at, packet.entry)

-- the number of the first packet
abbrev pub first_packet : List PacketOf → Option ℕ
first_packet [] = None
first_packet (packet ∷ more) = Some packet.packet

-- the packets with `new` between those with lower and those with higher numbers
abbrev pub with_new : PacketOf → List PacketOf → List PacketOf
with_new new packets =
    filter (λ packet. nat_lt packet.packet new.packet) packets
    ++ new ∷ filter (λ packet. nat_lt new.packet packet.packet) packets

-- the packet with this number, if there is one
abbrev pub packet_of : ℕ → List PacketOf → Option PacketOf
packet_of number packets = find (λ packet. packet.packet == number) packets

-- the packets without the one with this number
abbrev pub without : ℕ → List PacketOf → List PacketOf
without number packets = filter (λ packet. not (packet.packet == number)) packets

-- the packet after it has come to the far end of a link
abbrev pub moved_to : Option (ℕ × ℕ) → PacketOf → PacketOf
moved_to None packet = packet
moved_to (Some far) packet = record packet { at = far.0; entry = far.1; is_new = false }

-- the packets after the one with this number has come to the far end of a link
abbrev pub moved : ℕ → Option (ℕ × ℕ) → List PacketOf → List PacketOf
moved number far packets =
    map (λ packet. if packet.packet == number then moved_to far packet else packet) packets

-- the packets in flight after this hop of the packet with this number
abbrev pub after_hop : Hop → (ℕ → Option (ℕ × ℕ)) → ℕ → List PacketOf → List PacketOf
after_hop (hop.Went exit) next number packets = moved number (next exit) packets
after_hop (hop.Delivered exit host) next number packets = without number packets
after_hop (hop.Dropped why) next number packets = without number packets

-- the packets in flight after the next hop of this packet; unchanged if there is none
abbrev pub hopped_in :
    (ℕ → Option TableOf) → (ℕ → ℕ → Option (ℕ × ℕ)) → (ℕ → ℕ → Option (ℕ × ℕ)) → ℕ → Option PacketOf
    → List PacketOf → List PacketOf
hopped_in table host next number None packets = packets
hopped_in table host next number (Some packet) packets =
    after_hop (hop_in table host next packet) (next packet.at) number packets
