-- What the moves of a packet show: its trace, and where it is delivered.

use Rattle.std.specs.Prelude.{◌≡◌, ◌+◌, ◌/◌, ◌==◌, ◌≤◌, ℕ, List, [], ◌∷◌, ◌++◌, map, All, Contains, Option, Some, None, unwrap_or, Bool, true, false, if◌then◌else◌}
use Rattle.an_base.specs.Values.{LifeId, EntryOf, TopoOf}
use Rattle.an_base.specs.declared.event.Event.{Event}
use Rattle.an_base.specs.declared.event.Event.TheVariants.{Move, Send}
use Rattle.net_graph.specs.declared.wiring.Far.TheVariants.{HostAt}
use Rattle.net_graph.specs.Wires.{far_at}
use Rattle.net_script.specs.Scripts.{ScriptOf}
use Rattle.topo_graph.specs.Topology.{life_at, far_of}
use Rattle.updown.specs.Routes.{LegalRoute}
use Rattle.table_build.specs.Tables.{IsTableOf, exits_of}
use Rattle.switch_core.specs.Switch.{finish_of}
use Rattle.switch_core.specs.declared.switch.TableFor.{TableFor}
use Rattle.host_traffic.specs.declared.hop.Hop.{Hop}
use Rattle.host_traffic.specs.declared.hop.Hop.TheVariants as hop
use Rattle.host_traffic.specs.Packets.{PacketOf, packet_of, row_entry}
use Rattle.net_state.specs.Lawful.{is_lawful}
use Rattle.net_state.specs.Effects.{hop_of}
use Rattle.net_state.specs.declared.line.Line.{Line}
use Rattle.net_state.specs.declared.line.Line.TheVariants as line
use Rattle.net_state.specs.Lines.{epoch_in_use}
use Rattle.net_world.specs.Lines.{root_of}
use Rattle.net_world.specs.World.{WorldOf, begun, step, world_after}
use Rattle.net_world.specs.Histories.{in_use, switch_after}

-- a hop to another switch: the index of the switch that the packet was at, and its life then; the epoch of the table in
-- use, and the topology that the life had finished with; the port that the packet came in on, and the one that it went
-- out on
pub record Hopped : Type 0 where
  pub place : ℕ
  pub life : LifeId
  pub epoch : ℕ
  pub topo : TopoOf
  pub entry : ℕ
  pub exit : ℕ

-- the topology used where none was finished
abbrev pub no_topo : TopoOf
no_topo = record { entries = []; numbers = [] }

-- the hop of a packet through this exit, by the world before it; `no_topo` if the life has not finished its epoch
abbrev pub hopped_at : WorldOf → PacketOf → ℕ → Hopped
hopped_at world packet exit = record {
  place = packet.at;
  life = (world.switches packet.at).life;
  epoch = epoch_in_use world.fabric packet.at;
  topo = unwrap_or (finish_of (world.switches packet.at)) no_topo;
  entry = packet.entry;
  exit = exit;
}

-- this hop, if it leads to another switch
abbrev pub hopped_by : Hop → WorldOf → PacketOf → List Hopped
hopped_by (hop.Went exit) world packet = hopped_at world packet exit ∷ []
hopped_by (hop.Delivered exit host) world packet = []
hopped_by (hop.Dropped why) world packet = []

-- the next hop of this packet, if there is a packet and the hop leads to another switch
abbrev pub hopped_of : Option PacketOf → WorldOf → List Hopped
hopped_of None world = []
hopped_of (Some packet) world = hopped_by (hop_of world.fabric packet) world packet

-- the hop of the packet with this number by an event, if the event moves it to another switch
abbrev pub event_hop : ℕ → WorldOf → Event → List Hopped
event_hop number world (Move other) =
    if other == number then hopped_of (packet_of other world.fabric.packets) world else []
event_hop number world event = []

-- the trace of a packet: its hops to other switches by the lawful events, in order
abbrev pub trace_from : ℕ → WorldOf → List Event → List Hopped
trace_from number world [] = []
trace_from number world (event ∷ events) =
    (if is_lawful world.fabric event then event_hop number world event else [])
    ++ trace_from number (step world event) events

-- the trace of a packet, from the start of the network on
unfoldable pub trace_of : ScriptOf → List Event → ℕ → List Hopped
trace_of script history number = trace_from number (begun script) history

-- the line that reports a hop
abbrev pub moved_line : ℕ → Hopped → Line
moved_line number hop = line.Moved number hop.place hop.epoch hop.entry hop.exit None

-- whether a line reports a hop of this packet to another switch
abbrev pub tells_of_hop : ℕ → Line → Bool
tells_of_hop number (line.Moved packet place epoch entry exit None) = packet == number
tells_of_hop number other = false

-- the hop was made after the events `before`: the packet was there, the table in use was that of the topology that the
-- life had finished with in its epoch, and the packet took the lowest exit of the row that forwards it
pub record IsHopAt (script : ScriptOf) (before : List Event) (number : ℕ) (hop : Hopped) : Type 0 where
  pub packet : PacketOf
  pub there : packet_of number (world_after script before).fabric.packets ≡ Some packet
  pub at : packet.at ≡ hop.place
  pub entry : packet.entry ≡ hop.entry
  pub life : (switch_after script before hop.place).life ≡ hop.life
  pub used : TableFor
  pub in_use : in_use script before hop.place ≡ Some used
  pub epoch : used.epoch ≡ hop.epoch
  pub present : (switch_after script before hop.place).epoch ≡ hop.epoch
  pub finished : finish_of (switch_after script before hop.place) ≡ Some hop.topo
  pub table : IsTableOf hop.topo.entries hop.topo.numbers script.any_routes hop.life used.table
  pub exit : Contains (exits_of used.table (row_entry packet) (packet.address / 16)) hop.exit
  pub lowest : All (λ port. hop.exit ≤ port) (exits_of used.table (row_entry packet) (packet.address / 16))

-- the hop was made by a lawful event of the history
pub record IsHopOf (script : ScriptOf) (history : List Event) (number : ℕ) (hop : Hopped) : Type 0 where
  pub before : List Event
  pub later : List Event
  pub parts : history ≡ before ++ Move number ∷ later
  pub lawful : is_lawful (world_after script before).fabric (Move number) ≡ true
  pub made : IsHopAt script before number hop

-- each hop of a trace follows the table in use
abbrev pub AreHopsByTables : ScriptOf → List Event → Type 0
AreHopsByTables script history = (number : ℕ) (hop : Hopped)
    → Contains (trace_of script history number) hop → IsHopOf script history number hop

-- the hops lead over the links of a topology from member `from` to member `to`, given by their indices among the
-- entries, and each starts at the life that is there
abbrev pub LeadAlong : List EntryOf → ℕ → List Hopped → ℕ → Type 0
LeadAlong entries from [] to = from ≡ to
LeadAlong entries from (hop ∷ hops) to =
    (life_at entries from ≡ hop.life)
    × ((next port : ℕ) × (far_of entries from hop.exit ≡ Some (next, port)) × LeadAlong entries next hops to)

-- the hops follow tables of one topology, and form a legal route of it
pub record FormRoute (topo : TopoOf) (hops : List Hopped) : Type 0 where
  pub same : All (λ hop. hop.topo ≡ topo) hops
  pub from : ℕ
  pub to : ℕ
  pub along : LeadAlong topo.entries from hops to
  pub legal : LegalRoute topo.entries from (map (λ hop. hop.exit) hops) to

-- consecutive hops of a trace under tables of the same epoch and root form a legal route
abbrev pub AreLegalRoutes : ScriptOf → List Event → Type 0
AreLegalRoutes script history =
    (number epoch : ℕ) (root : LifeId) (earlier later : List Hopped) (first : Hopped) (hops : List Hopped)
    → trace_of script history number ≡ earlier ++ (first ∷ hops) ++ later
    → All (λ hop. (hop.epoch ≡ epoch) × (root_of hop.topo ≡ root)) (first ∷ hops)
    → FormRoute first.topo (first ∷ hops)

-- the packet with this number was sent to this host
pub record WasSentTo (script : ScriptOf) (history : List Event) (number host : ℕ) : Type 0 where
  pub before : List Event
  pub from : ℕ
  pub later : List Event
  pub parts : history ≡ before ++ Send from host ∷ later
  pub lawful : is_lawful (world_after script before).fabric (Send from host) ≡ true
  pub number_is : number ≡ (world_after script before).fabric.sent + 1

-- a packet that is delivered is at the host that it was sent to
abbrev pub AreDelivered : ScriptOf → List Event → Type 0
AreDelivered script history = (number : ℕ) (packet : PacketOf) (exit host : ℕ)
    → packet_of number (world_after script history).fabric.packets ≡ Some packet
    → hop_of (world_after script history).fabric packet ≡ hop.Delivered exit host
    → WasSentTo script history number host × (far_at script.wires packet.at exit ≡ Some (HostAt host))

-- what is claimed of the moves of packets after a history
pub record AreTraced (script : ScriptOf) (history : List Event) : Type 0 where
  pub hops : AreHopsByTables script history
  pub routes : AreLegalRoutes script history
  pub delivered : AreDelivered script history
