-- Channels of a fabric, and two facts about routes: whether one is stopped, and the least that makes a
-- dependency.
use Rattle.std.specs.Prelude.{◌≡◌, ◌≤◌, ◌+◌, ◌-◌, ◌*◌, ℕ}
use Rattle.fabric_model.specs.declared.node.EndPort.{EndPort}
use Rattle.fabric_model.specs.declared.traffic.Traffic.{Traffic}
use Rattle.fabric_model.specs.declared.node.Spot.{Spot}
use Rattle.fabric_model.specs.declared.node.Side.TheVariants.{To}
use Rattle.fabric_model.specs.Fabric.{FabricOf, side_of, guid_of}
use Rattle.fabric_tables.specs.Cells.{TablesOf}
use Rattle.fabric_routes.specs.Routes.{IsStopped, Channel, Takes}

-- `channel` is a link to a switch
pub record IsChannel (fabric : FabricOf) (channel : Channel) : Type 0 where
  pub to : ℕ
  pub entry : ℕ
  pub leads : side_of fabric channel.switch channel.port ≡ To to entry

-- the number of `channel`: the index of its port among the ports of all switches, `most` of them for each
-- switch
abbrev pub number : FabricOf → Channel → ℕ
number fabric channel = channel.switch * fabric.most + (channel.port - 1)

-- at least one route of the traffic is stopped
abbrev pub SomeIsStopped : FabricOf → TablesOf → Traffic → Type 0
SomeIsStopped fabric tables traffic = (lid : ℕ) × ((source : EndPort) × IsStopped fabric tables traffic lid source)

-- the channel out of a port of a switch
abbrev pub channel_of : Spot → Channel
channel_of spot = record { switch = spot.switch; port = spot.port }

-- The route from `source` to `lid` takes `channel` and then, directly, `next`; no such route leads to a lower
-- LID, and none to `lid` begins at an end port of lower GUID.
pub record IsLeastWitness (fabric : FabricOf) (tables : TablesOf) (traffic : Traffic) (channel next : Channel) (lid : ℕ) (source : EndPort) : Type 0 where
  pub takes : Takes fabric tables traffic lid source channel next
  pub least :
      (other_lid : ℕ) (other : EndPort) → Takes fabric tables traffic other_lid other channel next → lid ≤ other_lid
  pub first :
      (other : EndPort) → Takes fabric tables traffic lid other channel next
      → guid_of fabric source ≤ guid_of fabric other
