-- Packets in the buffers of channels.
use Rattle.std.specs.Prelude.{◌≡◌, ◌<◌, ◌≤◌, ◌⊎◌, ℕ, List, ◌∷◌, Contains, length}
use Rattle.common_graph.specs.Cycles.{Walk}
use Rattle.fabric_tables.specs.Cells.{TablesOf}
use Rattle.fabric_model.specs.declared.node.EndPort.{EndPort}
use Rattle.fabric_model.specs.Fabric.{FabricOf}
use Rattle.fabric_routes.specs.declared.hop.Hop.{Hop}
use Rattle.fabric_routes.specs.declared.hop.Hop.TheVariants.{On, Arrive, Stop}
use Rattle.fabric_model.specs.declared.traffic.Traffic.{Traffic}
use Rattle.fabric_routes.specs.Routes.{Channel, ComesTo, hop}

-- a packet from an end port to a LID
pub record Packet : Type 0 where
  pub lid : ℕ
  pub source : EndPort

-- `packet` waits in `channel`: its route comes to the switch out of which the channel leads, and takes the
-- channel
pub record StandsIn (fabric : FabricOf) (tables : TablesOf) (traffic : Traffic) (channel : Channel) (packet : Packet)
    : Type 0 where
  pub comes : ComesTo fabric tables traffic packet.lid packet.source channel.switch
  pub far : ℕ
  pub takes : hop fabric tables channel.switch packet.lid ≡ On channel.port far

-- for each channel, the packets that wait in it, the first one first
abbrev pub QueuesOf : Type 0
QueuesOf = Channel → List Packet

-- no channel holds more packets than its buffer space
abbrev pub AllFit : (Channel → ℕ) → QueuesOf → Type 0
AllFit room queue = (channel : Channel) → length (queue channel) ≤ room channel

-- every packet that is in a channel is on a route that takes the channel
abbrev pub AllStand : FabricOf → TablesOf → Traffic → QueuesOf → Type 0
AllStand fabric tables traffic queue =
    (channel : Channel) (packet : Packet) → Contains (queue channel) packet
    → StandsIn fabric tables traffic channel packet

-- A packet leaves where its route ends: it arrives, or the switch where the route stops drops it.
abbrev pub Leaves : Hop → Type 0
Leaves (On port next) = ⊥
Leaves Arrive = Unit {0}
Leaves (Stop cause) = Unit {0}

-- the switch at the far side of `channel` can handle `packet`: it leaves there, or the channel that it takes
-- next has free space
pub record CanGo (fabric : FabricOf) (tables : TablesOf) (room : Channel → ℕ) (queue : QueuesOf) (channel : Channel)
    (packet : Packet)
    : Type 0 where
  pub far : ℕ
  pub takes : hop fabric tables channel.switch packet.lid ≡ On channel.port far
  pub goes :
      Leaves (hop fabric tables far packet.lid)
      ⊎ ((next : Channel) × (after : ℕ) × (next.switch ≡ far) × (hop fabric tables far packet.lid ≡ On next.port after)
      × (length (queue next) < room next))

-- the first packet of `channel` can go
pub record FirstCanGo (fabric : FabricOf) (tables : TablesOf) (room : Channel → ℕ) (queue : QueuesOf)
    (channel : Channel)
    : Type 0 where
  pub first : Packet
  pub rest : List Packet
  pub stand : queue channel ≡ first ∷ rest
  pub can : CanGo fabric tables room queue channel first

-- the first packet of `channel` waits for `next`: it takes `next` after `channel`, and there is no free space
-- in it
pub record WaitsFor (fabric : FabricOf) (tables : TablesOf) (room : Channel → ℕ) (queue : QueuesOf)
    (channel next : Channel)
    : Type 0 where
  pub first : Packet
  pub rest : List Packet
  pub stand : queue channel ≡ first ∷ rest
  pub takes : hop fabric tables channel.switch first.lid ≡ On channel.port next.switch
  pub after : ℕ
  pub wants : hop fabric tables next.switch first.lid ≡ On next.port after
  pub full : room next ≤ length (queue next)

-- some walk leads from `channel`, each time to the channel for which the first packet waits, to a channel
-- whose first packet can go
pub record ComesFree (fabric : FabricOf) (tables : TablesOf) (room : Channel → ℕ) (queue : QueuesOf)
    (channel : Channel)
    : Type 0 where
  pub steps : ℕ
  pub free : Channel
  pub walk : Walk (WaitsFor fabric tables room queue) steps channel free
  pub goes : FirstCanGo fabric tables room queue free
