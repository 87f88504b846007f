-- Packets in the buffers of channels while rows change.
use Rattle.std.specs.Prelude.{◌≡◌, ◌<◌, ◌≤◌, ◌⊎◌, ℕ, List, ◌∷◌, Contains, length}
use Rattle.common_graph.specs.Cycles.{Walk}
use Rattle.fabric_tables.specs.Cells.{TablesOf}
use Rattle.fabric_model.specs.declared.node.Side.TheVariants.{To}
use Rattle.fabric_model.specs.Fabric.{FabricOf, side_of}
use Rattle.fabric_routes.specs.declared.hop.Hop.TheVariants.{On}
use Rattle.fabric_routes.specs.Routes.{Channel, hop}
use Rattle.fabric_verdict.specs.Packets.{Leaves, Packet, QueuesOf}
use Rattle.fabric_mixtures.specs.Mixtures.{MayTake}

-- a packet stands in a channel: by one of two tables the channel was taken for its LID, whoever owns that
pub record StandsWhile (fabric : FabricOf) (old new : TablesOf) (channel : Channel) (packet : Packet) : Type 0 where
  pub far : ℕ
  pub took : MayTake fabric old new packet.lid channel.switch channel.port far

-- each packet that is in a channel stands there
abbrev pub AllStandWhile : FabricOf → (old new : TablesOf) → QueuesOf → Type 0
AllStandWhile fabric old new queue =
    (channel : Channel) (packet : Packet) → Contains (queue channel) packet
    → StandsWhile fabric old new channel packet

-- The first packet of a channel can go, by the tables in which the switch at the far side looked it up: it leaves there,
-- or the channel that it takes next has room for it.
pub record FirstCanGo (fabric : FabricOf) (looked_up : Channel → TablesOf) (room : Channel → ℕ) (queue : QueuesOf)
    (channel : Channel)
    : Type 0 where
  pub first : Packet
  pub rest : List Packet
  pub stand : queue channel ≡ first ∷ rest
  pub far : ℕ
  pub entry : ℕ
  pub leads : side_of fabric channel.switch channel.port ≡ To far entry
  pub goes :
      Leaves (hop fabric (looked_up channel) far first.lid)
      ⊎ ((next : Channel) × (after : ℕ) × (next.switch ≡ far)
      × (hop fabric (looked_up channel) far first.lid ≡ On next.port after) × (length (queue next) < room next))

-- the first packet of a channel waits for another channel: it takes it next, and no place there is free
pub record WaitsFor (fabric : FabricOf) (looked_up : Channel → TablesOf) (room : Channel → ℕ) (queue : QueuesOf)
    (channel next : Channel)
    : Type 0 where
  pub first : Packet
  pub rest : List Packet
  pub stand : queue channel ≡ first ∷ rest
  pub entry : ℕ
  pub leads : side_of fabric channel.switch channel.port ≡ To next.switch entry
  pub after : ℕ
  pub wants : hop fabric (looked_up channel) next.switch first.lid ≡ On next.port after
  pub full : room next ≤ length (queue next)

-- from a channel, each time to the one for which its first packet waits, to one of which the first packet can go
pub record ComesFree (fabric : FabricOf) (looked_up : Channel → TablesOf) (room : Channel → ℕ) (queue : QueuesOf)
    (channel : Channel)
    : Type 0 where
  pub steps : ℕ
  pub free : Channel
  pub walk : Walk (WaitsFor fabric looked_up room queue) steps channel free
  pub goes : FirstCanGo fabric looked_up room queue free
