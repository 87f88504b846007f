-- Which switches and end ports of a fabric links join.

use Rattle.std.specs.Prelude.{◌≡◌, ◌<◌, ◌⊎◌, ℕ, Some}
use Rattle.common_graph.specs.Cycles.{Walk}
use Rattle.fabric_model.specs.declared.node.EndPort.{EndPort}
use Rattle.fabric_model.specs.declared.node.Side.TheVariants.{To}
use Rattle.fabric_model.specs.Fabric.{FabricOf, side_of, start_of, switch_count}
use Rattle.fabric_model.specs.declared.traffic.Traffic.{Traffic}
use Rattle.fabric_routes.specs.Routes.{SendsToOwner}

-- a port of a switch leads to another switch
abbrev pub LeadsTo : FabricOf → ℕ → ℕ → Type 0
LeadsTo fabric switch next =
    (switch < switch_count fabric)
    × ((port : ℕ) × (entry : ℕ) × (side_of fabric switch port ≡ To next entry))

-- a link is between two switches
abbrev pub AreLinked : FabricOf → ℕ → ℕ → Type 0
AreLinked fabric one other = LeadsTo fabric one other ⊎ LeadsTo fabric other one

-- links join two switches: some walk along links, in whichever direction, leads from the one to the other
abbrev pub AreJoined : FabricOf → ℕ → ℕ → Type 0
AreJoined fabric one other = (links : ℕ) × Walk (AreLinked fabric) links one other

-- links join two end ports: each is at a switch, and they join these
abbrev pub AreEndsJoined : FabricOf → (one other : EndPort) → Type 0
AreEndsJoined fabric one other =
    (from to : ℕ) × (start_of fabric one ≡ Some from) × (start_of fabric other ≡ Some to) × AreJoined fabric from to

-- each end port that sends to a LID is joined to its owner
abbrev pub AllJoined : FabricOf → Traffic → Type 0
AllJoined fabric traffic =
    (lid : ℕ) (source : EndPort) (sends : SendsToOwner fabric traffic lid source) → AreEndsJoined fabric source sends.owner

-- an end port sends to a LID, and is not joined to its owner
abbrev pub IsApart : FabricOf → Traffic → ℕ → EndPort → Type 0
IsApart fabric traffic lid source =
    (sends : SendsToOwner fabric traffic lid source) × (AreEndsJoined fabric source sends.owner → ⊥)
