-- The invariant of the fabric of a network.

use Rattle.std.specs.Prelude.{◌≡◌, ◌⊎◌, ◌+◌, ◌*◌, ◌%◌, ◌<◌, ◌≤◌, ℕ, List, [], length, All, AllPairs, true, false}
use Rattle.net_script.specs.Scripts.{ScriptOf, IsScript}
use Rattle.wire_set.specs.Frames.{FramesOf, frames_at, occupied}
use Rattle.wire_set.specs.WireState.{WiresOf, LinksAgree, HaveSameFarEnds, place as port_place, side_at}
use Rattle.wire_set.specs.WireState.{is_link, hand_of}
use Rattle.wire_set.specs.WireState as wire_state
use Rattle.host_traffic.specs.Packets.{PacketOf}
use Rattle.net_state.specs.declared.hand.Hand.{Hand}
use Rattle.net_state.specs.declared.hand.Hand.TheVariants as hand
use Rattle.net_state.specs.Fabric.{FabricOf, station, count, full_hands}

-- the wires that a network of this script starts with
abbrev pub wires_at_first : ScriptOf → WiresOf
wires_at_first script = wire_state.start script.wires script.limits.blocks

-- the queue is the wire into a port with a link, or the frame that a switch holds
abbrev pub IsWireOrHand : ScriptOf → ℕ → Type 0
IsWireOrHand script queue = (is_link (side_at (wires_at_first script) queue).far ≡ true) ⊎ (queue % 13 ≡ 0)

-- the frames have bytes, and there are none except on the wires of links and held by switches
pub record QueueFits (script : ScriptOf) (queue : ℕ) (frames : List (List ℕ)) : Type 0 where
  pub bytes : All (λ frame. 1 ≤ length frame) frames
  pub linked : 0 < length frames → IsWireOrHand script queue

-- there is a queue for each port, 0 to 12, of each switch; the free and the occupied blocks are those of the script
pub record AreFramesSound (script : ScriptOf) (frames : FramesOf) : Type 0 where
  pub queues : length frames.queues ≡ 13 * length script.wires.switches
  pub limit : frames.limit ≡ script.limits.blocks
  pub blocks : frames.free + occupied frames ≡ frames.limit
  pub each : (queue : ℕ) → QueueFits script queue (frames_at frames queue)

-- there is a side for each port, 0 to 12, of each switch, and the ends of links agree
pub record AreWiresSound (script : ScriptOf) (wires : WiresOf) : Type 0 where
  pub sides : length wires.sides ≡ 13 * length script.wires.switches
  pub agree : LinksAgree wires
  pub frames : AreFramesSound script wires.frames

-- the wires hold one frame for a switch that holds a frame, and otherwise none
abbrev pub HoldsFor : Hand → List (List ℕ) → Type 0
HoldsFor hand.Empty frames = frames ≡ []
HoldsFor (hand.Clock now samples) frames = frames ≡ []
HoldsFor (hand.Frame port) frames = length frames ≡ 1

-- the packet is one of those that were sent, at a port of a switch; after its first hop, that port has a link
pub record IsPacketSound (script : ScriptOf) (sent : ℕ) (packet : PacketOf) : Type 0 where
  pub least : 1 ≤ packet.packet
  pub most : packet.packet ≤ sent
  pub at : packet.at < length script.wires.switches
  pub entry_least : 1 ≤ packet.entry
  pub entry_most : packet.entry ≤ 12
  pub linked : packet.is_new ≡ false
      → is_link (side_at (wires_at_first script) (port_place packet.at packet.entry)).far ≡ true

-- the packets are in ascending order of number, and no more than were sent
pub record ArePacketsSound (script : ScriptOf) (fabric : FabricOf) : Type 0 where
  pub each : All (IsPacketSound script fabric.sent) fabric.packets
  pub rising : AllPairs (λ one other. one.packet < other.packet) fabric.packets
  pub sent : fabric.sent ≤ fabric.done

-- the tick is within the script's limit, and the commands done are among its commands
pub record IsInTime (script : ScriptOf) (fabric : FabricOf) : Type 0 where
  pub ticks : fabric.tick ≤ script.limits.ticks
  pub commands : fabric.done ≤ length script.commands

-- a frame that a switch holds came in on an external port
abbrev pub IsHandPort : Hand → Type 0
IsHandPort hand.Empty = Unit {0}
IsHandPort (hand.Clock now samples) = Unit {0}
IsHandPort (hand.Frame port) = (1 ≤ port) × (port ≤ 12)

-- what the switch at index `place` holds fits the wires, and came in on an external port
pub record HandFitsAt (fabric : FabricOf) (place : ℕ) : Type 0 where
  pub port : IsHandPort (station fabric place).hand
  pub holds : HoldsFor (station fabric place).hand (hand_of fabric.wires place)

-- the invariant: there is a station for each switch; the wires hold what switches hold; far ends are those of the
-- wiring; there is room to handle what is held; the clock and the commands done are within the script; and packets are
-- in ascending order of number, no more than were sent
pub record Fits (fabric : FabricOf) : Type 0 where
  pub script : IsScript fabric.script
  pub size : length fabric.stations ≡ count fabric
  pub hands : (place : ℕ) → place < count fabric → HandFitsAt fabric place
  pub wires_sound : AreWiresSound fabric.script fabric.wires
  pub fars : HaveSameFarEnds (wires_at_first fabric.script) fabric.wires
  pub room : fabric.events + full_hands fabric ≤ fabric.script.limits.events
  pub since : fabric.since ≤ fabric.events
  pub time : IsInTime fabric.script fabric
  pub packets : ArePacketsSound fabric.script fabric
  pub few : length fabric.packets ≤ fabric.sent
