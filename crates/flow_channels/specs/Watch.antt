-- The places where something can happen next, as the program keeps them.
use Rattle.std.specs.Prelude.{◌≡◌, ◌≢◌, ◌<◌, ◌↔◌, ℕ, List, Some, All, Bool, IsTrue, bit_and, length}
use Rattle.std.specs.Prelude.{slice_index}
use Rattle.std.specs.Int.{bit_at}
use Rattle.dep_check.specs.declared.channel.Channel.{Channel}
use Rattle.dep_check.specs.Tables.{IsSpot, place_of}
use Rattle.fcfc_router.specs.Shown.{ports_of}
use Rattle.flow_channels.specs.declared.tables.Tables.{Tables}
use Rattle.flow_channels.specs.declared.watch.Watch.{Watch}
use Rattle.flow_channels.specs.Board.{exit_set, ways}
use Rattle.flow_channels.specs.Flows.{FlowOf, PacketOf, first_of, queue_at, waiting_at}
use Rattle.flow_channels.specs.Layout.{LayoutOf, spot}
use Rattle.flow_channels.specs.Moves.{CanArrive, HasRoom}

-- the set has the index `place`
abbrev pub HasPlace : List ℕ → ℕ → Type 0
HasPlace sets place = bit_and (slice_index sets place) 1 ≢ 0

-- no packet that waits at the switch `at` has an exit whose channel has free space
abbrev pub IsIdle : Tables → FlowOf → ℕ → Type 0
IsIdle tables flow at =
    All (λ wait. All (λ port. HasRoom (ways tables) flow (spot at port) → ⊥)
    (ports_of (exit_set tables.exits (spot at wait.entry) wait.packet.to))) (waiting_at flow at)

-- `sets` has exactly the channels whose first packet is at its target
pub record AreArriving (tables : Tables) (flow : FlowOf) (sets : List ℕ) : Type 0 where
  pub count : length sets ≡ 2048
  pub all : (channel : Channel) → IsSpot channel → CanArrive (ways tables) flow channel
      → HasPlace sets (place_of channel)
  pub only : (place : ℕ) → HasPlace sets place
      → (channel : Channel) × IsSpot channel × (place_of channel ≡ place)
      × CanArrive (ways tables) flow channel

-- `sets` has at least the switches where a packet can leave
pub record AreAwake (tables : Tables) (flow : FlowOf) (sets : List ℕ) : Type 0 where
  pub count : length sets ≡ 2048
  pub low : (at : ℕ) → HasPlace sets at → at < 127
  pub others : (at : ℕ) → at < 127 → (HasPlace sets at → ⊥) → IsIdle tables flow at

-- `sets` has, for each switch with a number below `end`, the ports whose channels have free space
pub record AreFreePorts (tables : Tables) (flow : FlowOf) (end : ℕ) (sets : List ℕ) : Type 0 where
  pub count : length sets ≡ end
  pub each :
      (at port : ℕ) → at < end
      → ((bit_at (slice_index sets at) port ≡ 1) ↔ HasRoom (ways tables) flow (spot at port))

-- the three sets of `watch` are those of `flow`
pub record IsWatched (tables : Tables) (flow : FlowOf) (watch : Watch) : Type 0 where
  pub arriving : AreArriving tables flow watch.arriving
  pub free : AreFreePorts tables flow 127 watch.free.items
  pub awake : AreAwake tables flow watch.awake

-- the first packet of `channel`, if there is one, is at its target
abbrev pub NoneAsks : LayoutOf → FlowOf → Channel → Type 0
NoneAsks layout flow channel =
    (end : Channel) (packet : PacketOf) → layout.far channel ≡ Some end → first_of flow channel ≡ Some packet
    → end.at ≡ packet.to

-- a packet came or went in `channel`: the other channels have the same packets, and the same packets wait everywhere
-- except at its far side, and also there unless its first packet waits there
pub record IsTouched (layout : LayoutOf) (channel : Channel) (old new : FlowOf) : Type 0 where
  pub queues :
      (other : Channel) → place_of other ≢ place_of channel → queue_at new other ≡ queue_at old other
  pub waiting :
      (at : ℕ) → ((end : Channel) → layout.far channel ≡ Some end → at ≢ end.at)
      → waiting_at new at ≡ waiting_at old at
  pub still : NoneAsks layout new channel → (at : ℕ) → waiting_at new at ≡ waiting_at old at

-- `Holds` was true before a packet came or went in `channel`
pub record HeldBefore (tables : Tables) (channel : Channel) (flow : FlowOf) (Holds : FlowOf → Type 0)
    : Type 0 where
  pub old : FlowOf
  pub held : Holds old
  pub touched : IsTouched (ways tables) channel old flow

-- the set `new` has `port` if and only if `is_in`, and the other ports of the set `old`
pub record HasPortIf (old port : ℕ) (is_in : Bool) (new : ℕ) : Type 0 where
  pub here : (bit_at new port ≡ 1) ↔ IsTrue is_in
  pub others : (other : ℕ) → other ≢ port → bit_at new other ≡ bit_at old other
