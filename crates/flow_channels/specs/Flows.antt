-- Packets on their way: in channels, and waiting at switches.
use Rattle.std.specs.Prelude.{◌==◌, ◌+◌, ℕ, List, [], ◌∷◌, ◌++◌, Option, Some, None, drop, length, remove}
use Rattle.std.specs.Prelude.{replicate, slice_get, slice_index_or, slice_set, if◌then◌else◌}
use Rattle.dep_check.specs.declared.channel.Channel.{Channel}
use Rattle.dep_check.specs.Tables.{place_of}
use Rattle.flow_channels.specs.Layout.{LayoutOf, spot}

-- a packet, and the number of the switch that it goes to
pub record PacketOf : Type 0 where
  pub packet : ℕ
  pub to : ℕ

-- a packet that waits at a switch, and the port where it arrived; 0 if it starts there
pub record WaitOf : Type 0 where
  pub packet : PacketOf
  pub entry : ℕ

-- the packets in each channel, by its index, the first packet first; and the packets that wait at each switch, by its
-- number, oldest first
pub record FlowOf : Type 0 where
  pub queues : List (List PacketOf)
  pub waiting : List (List WaitOf)

abbrev pub queue_at : FlowOf → Channel → List PacketOf
queue_at flow channel = slice_index_or flow.queues (place_of channel) []

abbrev pub waiting_at : FlowOf → ℕ → List WaitOf
waiting_at flow at = slice_index_or flow.waiting at []

-- the first packet of `channel`
abbrev pub first_of : FlowOf → Channel → Option PacketOf
first_of flow channel = slice_get (queue_at flow channel) 0

-- the flow without packets; there is a queue for each of the 13 ports of 127 numbers, and a list for each number
abbrev pub empty_flow : FlowOf
empty_flow = record { queues = replicate 1651 []; waiting = replicate 127 [] }

-- `flow` with the packets `packets` in `channel`
abbrev pub with_queue : Channel → List PacketOf → FlowOf → FlowOf
with_queue channel packets flow = record flow { queues = slice_set flow.queues (place_of channel) packets }

-- `flow` with the packets `waits` waiting at the switch `at`
abbrev pub with_waiting : ℕ → List WaitOf → FlowOf → FlowOf
with_waiting at waits flow = record flow { waiting = slice_set flow.waiting at waits }

-- `flow` after a packet asks at the switch `at`: it waits there, after the others
abbrev pub asks : ℕ → WaitOf → FlowOf → FlowOf
asks at wait flow = with_waiting at (waiting_at flow at ++ (wait ∷ [])) flow

-- `flow` after `packet` starts at the switch `from`
abbrev pub enters : ℕ → ℕ → ℕ → FlowOf → FlowOf
enters packet from to flow =
    asks from (record { packet = record { packet = packet; to = to }; entry = 0 }) flow

-- `flow` after the first packet of a channel asks at the far side, unless that is its target
abbrev pub asks_at : Option Channel → Option PacketOf → FlowOf → FlowOf
asks_at None first flow = flow
asks_at (Some end) None flow = flow
asks_at (Some end) (Some packet) flow =
    if end.at == packet.to then flow else asks end.at (record { packet = packet; entry = end.port }) flow

abbrev pub first_asks : LayoutOf → Channel → FlowOf → FlowOf
first_asks layout channel flow = asks_at (layout.far channel) (first_of flow channel) flow

-- `flow` after the first packet of `channel` leaves it, and the next one asks
abbrev pub leaves : LayoutOf → Channel → FlowOf → FlowOf
leaves layout channel flow =
    first_asks layout channel (with_queue channel (drop 1 (queue_at flow channel)) flow)

-- `flow` after a packet leaves the channel that brought it, if one did
abbrev pub leaves_by : LayoutOf → Option Channel → FlowOf → FlowOf
leaves_by layout None flow = flow
leaves_by layout (Some channel) flow = leaves layout channel flow

-- `flow` after `packet` comes last in `channel`, and asks if it is the first there
abbrev pub comes_into : LayoutOf → Channel → PacketOf → FlowOf → FlowOf
comes_into layout channel packet flow =
    if length (queue_at flow channel) == 0
    then first_asks layout channel (with_queue channel (packet ∷ []) flow)
    else with_queue channel (queue_at flow channel ++ (packet ∷ [])) flow

-- `flow` after a packet that waits at the switch `at` goes into the channel of `port`
abbrev pub goes : LayoutOf → ℕ → ℕ → ℕ → Option WaitOf → FlowOf → FlowOf
goes layout at place port None flow = flow
goes layout at place port (Some wait) flow =
    comes_into layout (spot at port) wait.packet
    (leaves_by layout (layout.far (spot at wait.entry))
    (with_waiting at (remove (waiting_at flow at) place) flow))

-- the number of packets on their way: in channels (`in_queues`), and waiting where they start (`starting`,
-- `all_starting`)
abbrev pub in_queues : List (List PacketOf) → ℕ
in_queues [] = 0
in_queues (packets ∷ queues) = length packets + in_queues queues

abbrev pub starting : List WaitOf → ℕ
starting [] = 0
starting (wait ∷ waits) = (if wait.entry == 0 then 1 else 0) + starting waits

abbrev pub all_starting : List (List WaitOf) → ℕ
all_starting [] = 0
all_starting (waits ∷ waiting) = starting waits + all_starting waiting

-- the number of all packets on their way in `flow`
abbrev pub left_of : FlowOf → ℕ
left_of flow = in_queues flow.queues + all_starting flow.waiting
