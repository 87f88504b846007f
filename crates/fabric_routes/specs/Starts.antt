-- Where routes begin. Only private functions and those of `sender` cite this.
use Rattle.std.specs.Prelude.{◌≡◌, ◌≢◌, ◌<◌, ℕ, List, Some, length, slice_index_or}
use Rattle.fabric_model.specs.declared.node.EndPort.{EndPort}
use Rattle.fabric_model.specs.declared.node.EndPort.TheVariants.{Host, Switch}
use Rattle.fabric_model.specs.Fabric.{FabricOf, switch_count, start_of}
use Rattle.fabric_routes.specs.declared.audience.Audience.{Audience}
use Rattle.fabric_routes.specs.declared.sender.Senders.{Senders}
use Rattle.fabric_routes.specs.declared.sender.Senders.TheVariants.{Quiet, One, Several}
use Rattle.fabric_routes.specs.Audience.{IsHeard, IsHeardFrom}

-- the end ports of a kind: none, one only, or several
abbrev pub AreSendersOf : (EndPort → Type 0) → Senders → Type 0
AreSendersOf Is Quiet = (source : EndPort) → Is source → ⊥
AreSendersOf Is (One who) = Is who × ((source : EndPort) → Is source → source ≡ who)
AreSendersOf Is Several = (one other : EndPort) × Is one × Is other × (one ≢ other)

-- the end port belongs to an adapter or router, is among the first `count`, and is cabled to `switch`
abbrev pub IsAmong : FabricOf → ℕ → ℕ → EndPort → Type 0
IsAmong fabric count switch (Host end) = (end < count) × (start_of fabric (Host end) ≡ Some switch)
IsAmong fabric count switch (Switch at) = ⊥

-- `senders` says, for each switch, which of the first `count` end ports are cabled to it
pub record AreAllSendersBelow (fabric : FabricOf) (count : ℕ) (senders : List Senders) : Type 0 where
  pub size : length senders ≡ switch_count fabric
  pub each :
      (switch : ℕ) → switch < switch_count fabric
      → AreSendersOf (IsAmong fabric count switch) (slice_index_or senders switch Quiet)

-- `senders` says, for each switch, which end ports of adapters and routers are cabled to it
abbrev pub AreAllSenders : FabricOf → List Senders → Type 0
AreAllSenders fabric senders = AreAllSendersBelow fabric (length fabric.cables) senders

-- `source` belongs to `audience`, and its routes begin at `switch`
abbrev pub IsHeardAt : FabricOf → Audience → ℕ → EndPort → Type 0
IsHeardAt fabric audience switch source = IsHeardFrom fabric audience source × (start_of fabric source ≡ Some switch)

-- a route to `lid`, whose audience is `audience`, begins at `switch`
abbrev pub IsStart : FabricOf → Audience → (lid switch : ℕ) → Type 0
IsStart fabric audience lid switch =
    (source : EndPort) × IsHeard fabric audience lid source × (start_of fabric source ≡ Some switch)
