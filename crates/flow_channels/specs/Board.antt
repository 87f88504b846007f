-- The packets, where they are and where they may go, as the program keeps them.
use Rattle.std.specs.Prelude.{◌≡◌, ◌+◌, ◌*◌, ◌<◌, ◌≤◌, ℕ, List, [], Option, Some, All, length, map, min}
use Rattle.std.specs.Prelude.{slice_index, slice_index_or, vec_capacity}
use Rattle.dep_check.specs.declared.channel.Channel.{Channel}
use Rattle.dep_check.specs.Tables.{IsSpot, place_of, wire_at, WiresAreWithin}
use Rattle.fcfc_router.specs.Router.{RequestOf}
use Rattle.fcfc_router.specs.Shown.{ports_of, RouterOf}
use Rattle.flow_channels.specs.declared.board.Board.{Board}
use Rattle.flow_channels.specs.declared.board.Departure.{Departure}
use Rattle.flow_channels.specs.declared.board.Packet.{Packet}
use Rattle.flow_channels.specs.declared.tables.Tables.{Tables}
use Rattle.flow_channels.specs.Layout.{LayoutOf, IsWired, JoinsAll, exits_of, spot}
use Rattle.flow_channels.specs.Flows.{FlowOf, PacketOf, WaitOf, asks, comes_into, leaves_by}
use Rattle.flow_channels.specs.Queue.{QueueOf}
use Rattle.flow_channels.specs.Sound.{IsSound}

-- the set of exits for packets that arrive at `came` and go to the number `to`
abbrev pub exit_set : List ℕ → Channel → ℕ → ℕ
exit_set sets came to = slice_index sets (place_of came * 127 + to)

-- `wires`, `sets` and `room` are the far sides, the exits and the channel size of `layout`
pub record AreTablesOf (layout : LayoutOf) (wires : List (Option Channel)) (sets : List ℕ) (room : ℕ)
    : Type 0 where
  pub far : (channel : Channel) → wire_at wires channel ≡ layout.far channel
  pub exits :
      (came : Channel) (to : ℕ) → IsSpot came → to < 127
      → ports_of (exit_set sets came to) ≡ exits_of layout came to
  pub room_is : room ≡ layout.most

-- a packet as contracts see it
abbrev pub packet_of : Packet → PacketOf
packet_of packet = record { packet = packet.packet; to = packet.to }

-- the packet in `slot`
abbrev pub packet_at : List Packet → ℕ → PacketOf
packet_at packets slot = packet_of (slice_index_or packets slot (record { packet = 0; to = 0 }))

-- the packet in `slot`, which waits, with the port where it arrived
abbrev pub wait_at : List Packet → List ℕ → ℕ → WaitOf
wait_at packets entries slot = record { packet = packet_at packets slot; entry = slice_index entries slot }

-- the packets in `queue`, the first packet first
abbrev pub packets_in : List Packet → QueueOf → List PacketOf
packets_in packets queue = map (packet_at packets) queue.slots

-- the packets that wait at `router`, oldest first
abbrev pub waits_at : List Packet → List ℕ → RouterOf → List WaitOf
waits_at packets entries router = map (λ request. wait_at packets entries request.packet) router.waiting

-- the flow that `board` represents
abbrev pub flow_of : Board → FlowOf
flow_of board = record {
  queues = map (packets_in board.packets.items) board.queues.items;
  waiting = map (waits_at board.packets.items board.entries.items) board.routers.items;
}

-- the layout that the steps of the flow need: only the far sides and the channel size
abbrev pub ways : Tables → LayoutOf
ways tables = record { far = wire_at tables.wires.items; numbers = []; rows = []; most = tables.room }

-- the flow after the packet in `slot` asks at the switch `at`, where it arrived at the port `entry`
abbrev pub asked_by : Board → ℕ → ℕ → ℕ → FlowOf
asked_by board at slot entry =
    asks at (record { packet = packet_at board.packets.items slot; entry = entry }) (flow_of board)

-- the flow after the packet in `slot` comes last in `channel`
abbrev pub come_by : Tables → Board → Channel → ℕ → FlowOf
come_by tables board channel slot =
    comes_into (ways tables) channel (packet_at board.packets.items slot) (flow_of board)

-- the flow after the packet that arrived at `came` has left the channel that brought it, if one did
abbrev pub freed_by : Tables → Board → Channel → FlowOf
freed_by tables board came = leaves_by (ways tables) ((ways tables).far came) (flow_of board)

-- the spot where the packet of `departure` had arrived
abbrev pub departed_from : Board → Departure → Channel
departed_from board departure = spot departure.at (slice_index board.entries.items departure.slot)

-- the flow after the packet of `departure` has left the channel that brought it, if one did
abbrev pub left_by : Tables → Board → Departure → FlowOf
left_by tables board departure = freed_by tables board (departed_from board departure)

-- the flow after the packet of `departure` has also come into the channel of its port
abbrev pub gone_by : Tables → Board → Departure → FlowOf
gone_by tables board departure =
    comes_into (ways tables) (spot departure.at departure.exit) (packet_at board.packets.items departure.slot)
    (left_by tables board departure)

-- `request` at the switch `at` names a packet that entered, and its exits
pub record IsAsked (sets : List ℕ) (board : Board) (at : ℕ) (request : RequestOf) : Type 0 where
  pub slot : request.packet < length board.packets.items
  pub ports :
      request.ports
      ≡ ports_of (exit_set sets (spot at (slice_index board.entries.items request.packet))
      (packet_at board.packets.items request.packet).to)

-- the queues of the spots before the index `end` that have a far side have space for `places` packets
abbrev pub HavePlaces : List (Option Channel) → ℕ → ℕ → List QueueOf → Type 0
HavePlaces wires places end queues =
    (channel far : Channel) (none : QueueOf) → IsSpot channel → place_of channel < end
    → wire_at wires channel ≡ Some far → (slice_index_or queues (place_of channel) none).places ≡ places

-- `queues` are the queues of the spots before the index `end`; they are empty, and have space for `places` packets
-- where there is a far side
pub record AreEmptyQueues (wires : List (Option Channel)) (places end : ℕ) (queues : List QueueOf)
    : Type 0 where
  pub count : length queues ≡ end
  pub empty : All (λ queue. queue.slots ≡ []) queues
  pub places_are : HavePlaces wires places end queues

-- some port of the switch `at` has a far side
abbrev pub HasLink : List (Option Channel) → ℕ → Type 0
HasLink wires at = (port : ℕ) × (far : Channel) × (wire_at wires (spot at port) ≡ Some far)

-- the routers of the numbers below `end` that have a link hold `most` requests
abbrev pub HaveMost : List (Option Channel) → ℕ → ℕ → List RouterOf → Type 0
HaveMost wires most end routers =
    (at : ℕ) (none : RouterOf) → at < end → HasLink wires at → (slice_index_or routers at none).most ≡ most

-- `routers` are the routers of the numbers below `end`; nothing waits there, and they hold `most` requests where there
-- is a link
pub record AreIdleRouters (wires : List (Option Channel)) (most end : ℕ) (routers : List RouterOf)
    : Type 0 where
  pub count : length routers ≡ end
  pub idle : All (λ router. router.waiting ≡ []) routers
  pub most_is : HaveMost wires most end routers

-- the board has a queue for each spot, a router for each number, and a port of arrival for each packet; all packets in
-- them have entered; and each queue whose spot has a far side, and each router whose number has a link, has space
pub record IsKept (tables : Tables) (board : Board) : Type 0 where
  pub within : WiresAreWithin tables.wires.items
  pub queues : length board.queues.items ≡ 1651
  pub routers : length board.routers.items ≡ 127
  pub count : length board.entries.items ≡ length board.packets.items
  pub capacity : (tables.limit ≤ vec_capacity board.packets) × (tables.limit ≤ vec_capacity board.entries)
  pub few : length board.packets.items ≤ tables.limit
  pub targets : All (λ packet. packet.to < 127) board.packets.items
  pub queued : All (λ queue. All (λ slot. slot < length board.packets.items) queue.slots) board.queues.items
  pub places : HavePlaces tables.wires.items (min tables.room tables.limit) 1651 board.queues.items
  pub asked : (at : ℕ) (none : RouterOf) → at < 127
      → All (IsAsked tables.exits board at) (slice_index_or board.routers.items at none).waiting
  pub most : HaveMost tables.wires.items tables.limit 127 board.routers.items

-- `flow` over `tables` is sound
pub record IsSoundOver (tables : Tables) (flow : FlowOf) : Type 0 where
  pub layout : LayoutOf
  pub known : List ℕ
  pub tables_are : AreTablesOf layout tables.wires.items tables.exits tables.room
  pub wired : IsWired layout
  pub joined : JoinsAll layout
  pub few : length known ≤ tables.limit
  pub sound : IsSound layout known flow
