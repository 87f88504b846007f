-- The parts of a fabric by labels of its switches. Only private functions and proofs cite this.

use Rattle.std.specs.Prelude.{◌≡◌, ◌≢◌, ◌<◌, ◌⊎◌, ◌==◌, ◌↔◌, ℕ, List, Option, Some, length, option_and_then, slice_get}
use Rattle.std.specs.Prelude.{slice_index, if◌then◌else◌}
use Rattle.fabric_model.specs.declared.node.EndPort.{EndPort}
use Rattle.fabric_model.specs.declared.node.Side.TheVariants.{To}
use Rattle.fabric_model.specs.Fabric.{FabricOf, owner_of, side_of, start_of, switch_count}
use Rattle.fabric_model.specs.declared.traffic.Traffic.{Traffic}
use Rattle.fabric_routes.specs.Routes.{IsSource, IsTarget}
use Rattle.fabric_route_command.specs.Joined.{AreEndsJoined, AreJoined}

-- a label after one of these took the place of the other
abbrev pub renamed : (from to label : ℕ) → ℕ
renamed from to label = if label == from then to else label

-- each label was renamed
pub record AreRenamed (from to : ℕ) (old new : List ℕ) : Type 0 where
  pub count : length new ≡ length old
  pub each : (place : ℕ) → place < length old → slice_index new place ≡ renamed from to (slice_index old place)

-- a port of a switch before this one, or of this one before the port
abbrev pub IsBefore : (switch port : ℕ) → (other_switch other_port : ℕ) → Type 0
IsBefore switch port other_switch other_port =
    (other_switch < switch) ⊎ ((other_switch ≡ switch) × (other_port < port))

-- switches with one label are joined, and so far links lead to switches with the same label
pub record AreLabelsBefore (fabric : FabricOf) (switch port : ℕ) (labels : List ℕ) : Type 0 where
  pub count : length labels ≡ switch_count fabric
  pub joined :
      (one other : ℕ) → one < switch_count fabric → other < switch_count fabric
      → slice_index labels one ≡ slice_index labels other → AreJoined fabric one other
  pub linked :
      (one place next entry : ℕ) → IsBefore switch port one place → one < switch_count fabric
      → side_of fabric one place ≡ To next entry
      → (next < switch_count fabric) × (slice_index labels one ≡ slice_index labels next)

-- two switches have one label exactly if links join them
pub record AreLabels (fabric : FabricOf) (labels : List ℕ) : Type 0 where
  pub count : length labels ≡ switch_count fabric
  pub same :
      (one other : ℕ) → one < switch_count fabric → other < switch_count fabric
      → ((slice_index labels one ≡ slice_index labels other) ↔ AreJoined fabric one other)

-- an end port that sends by one traffic, and a LID of another one to which some send by another
pub record SendsBy (fabric : FabricOf) (from to : Traffic) (lid : ℕ) (source : EndPort) : Type 0 where
  pub is_source : IsSource fabric from source
  pub owner : EndPort
  pub owns : owner_of fabric lid ≡ Some owner
  pub is_target : IsTarget fabric to owner
  pub other : source ≢ owner

-- all these are joined, and one is not
abbrev pub AllJoinedBy : FabricOf → (from to : Traffic) → Type 0
AllJoinedBy fabric from to =
    (lid : ℕ) (source : EndPort) (sends : SendsBy fabric from to lid source) → AreEndsJoined fabric source sends.owner

abbrev pub IsApartBy : FabricOf → (from to : Traffic) → ℕ → EndPort → Type 0
IsApartBy fabric from to lid source =
    (sends : SendsBy fabric from to lid source) × (AreEndsJoined fabric source sends.owner → ⊥)

-- the label of the switch of an end port
abbrev pub label_of : FabricOf → List ℕ → EndPort → Option ℕ
label_of fabric labels end = option_and_then (slice_get labels) (start_of fabric end)

-- an end port sends, and its label is not this one
abbrev pub IsOtherSource : FabricOf → Traffic → List ℕ → Option ℕ → EndPort → Type 0
IsOtherSource fabric traffic labels label source =
    IsSource fabric traffic source × (label_of fabric labels source ≢ label)

-- the owner of a LID is sent to, and its label is not this one
abbrev pub IsOtherTarget : FabricOf → Traffic → List ℕ → Option ℕ → ℕ → Type 0
IsOtherTarget fabric traffic labels label lid =
    (owner : EndPort) × (owner_of fabric lid ≡ Some owner) × IsTarget fabric traffic owner
    × (label_of fabric labels owner ≢ label)
