-- Flows that come about when packets enter and moves are made, in every order.
use Rattle.std.specs.Prelude.{◌≡◌, ◌≢◌, ◌==◌, ◌<◌, ◌+◌, ◌*◌, max, ℕ, suc, List, [], ◌∷◌, Option, Some, Contains}
use Rattle.std.specs.Prelude.{length, unwrap_or, if◌then◌else◌}
use Rattle.flow_channels.specs.declared.went.Went.{Went}
use Rattle.flow_channels.specs.declared.went.Went.TheVariants.{Arrived, Out}
use Rattle.flow_channels.specs.Layout.{LayoutOf}
use Rattle.flow_channels.specs.Flows.{FlowOf, PacketOf, all_starting, empty_flow, enters}
use Rattle.flow_channels.specs.Moves.{Move, IsPossible, after, went_by}

-- an act: a packet enters at a switch towards another one; or a move is made, and `went` is the packet that moved
pub data Act : Type 0 where
  Enter : (packet from to : ℕ) → Act
  Make : (move : Move) (went : Went) → Act

-- the packets that entered in a list of acts, the newest first
abbrev pub entered : List Act → List ℕ
entered [] = []
entered (Enter packet from to ∷ acts) = packet ∷ entered acts
entered (Make move went ∷ acts) = entered acts

-- `packet` may enter: it has not entered, fewer than `limit` have, and `from` and `to` are different switches of the
-- topology
pub record MayEnter (layout : LayoutOf) (limit : ℕ) (before : List ℕ) (packet from to : ℕ) : Type 0 where
  pub few : length before < limit
  pub new : Contains before packet → ⊥
  pub from_in : Contains layout.numbers from
  pub to_in : Contains layout.numbers to
  pub apart : from ≢ to

-- `flow` comes about by a list of acts, the newest first. Each move is possible when it is made, but it need not be the
-- next move.
abbrev pub Comes : LayoutOf → ℕ → List Act → FlowOf → Type 0
Comes layout limit [] flow = flow ≡ empty_flow
Comes layout limit (Enter packet from to ∷ acts) flow =
    (old : FlowOf) × Comes layout limit acts old × MayEnter layout limit (entered acts) packet from to
    × (flow ≡ enters packet from to old)
Comes layout limit (Make move went ∷ acts) flow =
    (old : FlowOf) × Comes layout limit acts old × IsPossible layout old move
    × (went_by old move ≡ Some went) × (flow ≡ after layout move old)

-- the highest of all ranks
abbrev pub greatest : List (Option ℕ) → ℕ
greatest [] = 0
greatest (rank ∷ ranks) = max (unwrap_or rank 0) (greatest ranks)

-- An upper bound on the moves left: for a packet in a channel the channel's rank plus one, for a packet before its
-- first channel the highest rank plus two
abbrev pub moves_in : List (Option ℕ) → List (List PacketOf) → ℕ
moves_in [] queues = 0
moves_in (rank ∷ ranks) [] = 0
moves_in (rank ∷ ranks) (packets ∷ queues) = length packets * suc (unwrap_or rank 0) + moves_in ranks queues

abbrev pub moves_left : List (Option ℕ) → FlowOf → ℕ
moves_left ranks flow = moves_in ranks flow.queues + all_starting flow.waiting * (greatest ranks + 2)

-- how often `packet` went out in a list of turns
abbrev pub hops_of : ℕ → List Went → ℕ
hops_of packet [] = 0
hops_of packet (Arrived other at ∷ rest) = hops_of packet rest
hops_of packet (Out other at exit ∷ rest) = (if other == packet then 1 else 0) + hops_of packet rest

-- how often `packet` went out in a list of acts
abbrev pub hops_in : ℕ → List Act → ℕ
hops_in packet [] = 0
hops_in packet (Enter other from to ∷ acts) = hops_in packet acts
hops_in packet (Make move went ∷ acts) = hops_of packet (went ∷ []) + hops_in packet acts
