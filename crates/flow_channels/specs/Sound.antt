-- The invariant of every flow that comes about.
use Rattle.std.specs.Prelude.{◌≡◌, ◌≢◌, ◌≤◌, ◌⊎◌, ℕ, List, [], ◌∷◌, Option, Some, None, All, AllPairs}
use Rattle.std.specs.Prelude.{Contains, length}
use Rattle.dep_check.specs.declared.channel.Channel.{Channel}
use Rattle.common_graph.specs.Cycles.{Walk}
use Rattle.dep_check.specs.Packets.{GoesOn}
use Rattle.dep_check.specs.Tables.{IsSpot}
use Rattle.flow_channels.specs.Layout.{LayoutOf, spot}
use Rattle.flow_channels.specs.Flows.{FlowOf, PacketOf, WaitOf, queue_at, waiting_at}

-- packets to `to` that arrive at `came` can have followed the rows from port 0 of another switch
pub record IsOnWay (layout : LayoutOf) (to : ℕ) (came : Channel) : Type 0 where
  pub from : ℕ
  pub from_in : Contains layout.numbers from
  pub to_in : Contains layout.numbers to
  pub apart : from ≢ to
  pub steps : ℕ
  pub walk : Walk (GoesOn layout.far layout.rows to) steps (spot from 0) came

-- a packet that waits is the first packet of the channel that brought it; if none did, it starts there
abbrev pub IsFirst : FlowOf → Channel → PacketOf → Type 0
IsFirst flow channel packet = (rest : List PacketOf) × (queue_at flow channel ≡ packet ∷ rest)

abbrev pub IsBroughtBy : FlowOf → WaitOf → Option Channel → Type 0
IsBroughtBy flow wait None = wait.entry ≡ 0
IsBroughtBy flow wait (Some channel) = IsFirst flow channel wait.packet

-- the packet `wait` waits at the switch `at`, which is not its target, and is on its way
abbrev pub WaitsThere : LayoutOf → FlowOf → ℕ → WaitOf → Type 0
WaitsThere layout flow at wait =
    (at ≢ wait.packet.to) × IsOnWay layout wait.packet.to (spot at wait.entry)
    × IsBroughtBy flow wait (layout.far (spot at wait.entry))

-- the first packet of a channel waits at the far side `end`, unless it is at its target
abbrev pub FirstWaits : FlowOf → Channel → List PacketOf → Type 0
FirstWaits flow end [] = Unit {0}
FirstWaits flow end (packet ∷ rest) =
    (end.at ≡ packet.to) ⊎ Contains (waiting_at flow end.at) (record { packet = packet; entry = end.port })

-- `packet` in `channel` followed the rows to the far side of the channel
abbrev pub ComesBy : LayoutOf → Channel → PacketOf → Type 0
ComesBy layout channel packet =
    (end : Channel) × (layout.far channel ≡ Some end) × IsOnWay layout packet.to end

-- `packet` entered, and `channel` is its only spot
abbrev pub IsIn : List ℕ → (ℕ → Channel) → Channel → PacketOf → Type 0
IsIn known place channel packet = Contains known packet.packet × (place packet.packet ≡ channel)

-- if a packet waits where it entered, its spot is entry 0 of that switch
abbrev pub IsInIfStarts : List ℕ → (ℕ → Channel) → ℕ → WaitOf → Type 0
IsInIfStarts known place at wait = wait.entry ≡ 0 → IsIn known place (spot at 0) wait.packet

-- no packet is twice in one channel (`AreApart`), or twice among those that wait at one switch (`WaitApart`)
abbrev pub AreApart : List PacketOf → Type 0
AreApart packets = AllPairs (λ one other. one.packet ≢ other.packet) packets

abbrev pub WaitApart : List WaitOf → Type 0
WaitApart waits = AllPairs (λ one other. one.packet.packet ≢ other.packet.packet) waits

-- `flow` is sound, and `known` are the packets that entered
pub record IsSound (layout : LayoutOf) (known : List ℕ) (flow : FlowOf) : Type 0 where
  -- there is a list for each of the 1,651 spots and for each of the 127 numbers
  pub queues : length flow.queues ≡ 1651
  pub waiting : length flow.waiting ≡ 127
  -- a channel has at most as many packets as it holds, and each is on its way
  pub room : (channel : Channel) → IsSpot channel → length (queue_at flow channel) ≤ layout.most
  pub moving : (channel : Channel) → IsSpot channel → All (ComesBy layout channel) (queue_at flow channel)
  -- the first packet of a channel asks, and a packet that asks is such a first packet or starts there
  pub firsts :
      (channel end : Channel) → layout.far channel ≡ Some end
      → FirstWaits flow end (queue_at flow channel)
  pub waits : (at : ℕ) → All (WaitsThere layout flow at) (waiting_at flow at)
  -- each packet is in one spot, once
  pub place : ℕ → Channel
  pub in_queue : (channel : Channel) → IsSpot channel → All (IsIn known place channel) (queue_at flow channel)
  pub starts : (at : ℕ) → All (IsInIfStarts known place at) (waiting_at flow at)
  pub once : (channel : Channel) → IsSpot channel → AreApart (queue_at flow channel)
  pub apart : (at : ℕ) → WaitApart (waiting_at flow at)
