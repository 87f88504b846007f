-- Switches and end ports, and the LIDs that they own.
use Rattle.std.specs.Prelude.{◌≡◌, ◌≢◌, ◌<◌, ◌≤◌, ◌+◌, ◌-◌, ◌^◌, ◌↔◌, ◌⊎◌, ◌++◌, ◌∷◌, [], nat_eq, ℕ, Bool}
use Rattle.std.specs.Prelude.{true, false, List, Option, Some, None, length, slice_get, slice_index_or, All}
use Rattle.std.specs.Prelude.{Contains}
use Rattle.std.specs.Map.{lookup}
use Rattle.fabric_model.specs.declared.node.LidRange.{LidRange}
use Rattle.fabric_model.specs.declared.node.Switch.{Switch}
use Rattle.fabric_model.specs.declared.node.EndPort.{EndPort}
use Rattle.fabric_model.specs.declared.node.EndPort.TheVariants as port
use Rattle.fabric_model.specs.declared.node.NodeFault.{NodeFault}
use Rattle.fabric_model.specs.declared.node.NodeFault.TheVariants.{Differs, LidsTooHigh, LidTaken}
use Rattle.fabric_model.specs.declared.node.NodeFault.TheVariants.{TooManyPorts, TooMany}

-- each switch with its GUID, and each end port of an adapter or router with its GUID and LIDs
pub record NodesOf : Type 0 where
  pub switches : List (ℕ × Switch)
  pub ends : List (ℕ × LidRange)

-- `lid` is in `range`
pub record IsAmong (range : LidRange) (lid : ℕ) : Type 0 where
  pub some : 0 < range.base
  pub first : range.base ≤ lid
  pub last : lid < range.base + 2 ^ range.lmc

-- the end port, given by its index, owns `lid`
abbrev pub Owns : NodesOf → EndPort → ℕ → Type 0
Owns nodes (port.Host end) lid =
    (node : ℕ × LidRange) × (slice_get nodes.ends end ≡ Some node) × IsAmong node.1 lid
Owns nodes (port.Switch switch) lid =
    (node : ℕ × Switch) × (slice_get nodes.switches switch ≡ Some node) × IsAmong node.1.lids lid

-- `lid` has an owner
abbrev pub IsOwned : NodesOf → ℕ → Type 0
IsOwned nodes lid = (owner : EndPort) × Owns nodes owner lid

-- a LID in `range` has an owner
abbrev pub IsTaken : NodesOf → LidRange → Type 0
IsTaken nodes range = (lid : ℕ) × IsAmong range lid × IsOwned nodes lid

-- entry `lid` of `flags`, for each `lid`, says whether `lid` has an owner
pub record AreOwned (nodes : NodesOf) (flags : List Bool) : Type 0 where
  pub owned : (lid : ℕ) → slice_index_or flags lid false ≡ true → IsOwned nodes lid
  pub free : (lid : ℕ) → IsOwned nodes lid → slice_index_or flags lid false ≡ true

-- a LID in `range` is flagged
abbrev pub IsFlagged : List Bool → LidRange → Type 0
IsFlagged flags range = (lid : ℕ) × IsAmong range lid × (slice_index_or flags lid false ≡ true)

-- a node: a switch, or an end port of an adapter or router
pub data Node : Type 0 where
  OfSwitch : (switch : ℕ × Switch) → Node
  OfEnd : (end : ℕ × LidRange) → Node

abbrev pub HasNode : NodesOf → Node → Type 0
HasNode nodes (OfSwitch switch) = Contains nodes.switches switch
HasNode nodes (OfEnd end) = Contains nodes.ends end

abbrev pub lids_of : Node → LidRange
lids_of (OfSwitch switch) = switch.1.lids
lids_of (OfEnd end) = end.1

-- `node` is one of `nodes` and owns `lid`
abbrev pub OwnsLid : NodesOf → Node → ℕ → Type 0
OwnsLid nodes node lid = HasNode nodes node × IsAmong (lids_of node) lid

-- no LID has two owners
abbrev pub HasOneOwner : NodesOf → Type 0
HasOneOwner nodes =
    (lid : ℕ) (one other : Node) → OwnsLid nodes one lid → OwnsLid nodes other lid → one ≡ other

-- no LID belongs to two end ports
abbrev pub HasOneEndPort : NodesOf → Type 0
HasOneEndPort nodes =
    (lid : ℕ) (one other : EndPort) → Owns nodes one lid → Owns nodes other lid → one ≡ other

-- the end port owns `lid`, and is among the first `switches` switches or the first `ends` end ports
abbrev pub OwnsFirst : NodesOf → ℕ → ℕ → EndPort → ℕ → Type 0
OwnsFirst nodes switches ends (port.Host end) lid = (end < ends) × Owns nodes (port.Host end) lid
OwnsFirst nodes switches ends (port.Switch switch) lid =
    (switch < switches) × Owns nodes (port.Switch switch) lid

-- `owners` holds, for each LID, its owner among the first `switches` switches and `ends` end ports
abbrev pub AreOwners : NodesOf → ℕ → ℕ → List (Option EndPort) → Type 0
AreOwners nodes switches ends owners =
    (lid : ℕ) (owner : EndPort)
    → ((slice_index_or owners lid None ≡ Some owner) ↔ OwnsFirst nodes switches ends owner lid)

-- the last entry of `owners` is an owner, unless there are no entries
abbrev pub EndsOwned : List (Option EndPort) → Type 0
EndsOwned owners = 0 < length owners → slice_index_or owners (length owners - 1) None ≢ None

-- the LIDs in `range` have this owner in `new`, and all others have the owner that they have in `old`
pub record PutsOwner (old new : List (Option EndPort)) (range : LidRange) (owner : EndPort) : Type 0 where
  pub among : (lid : ℕ) → IsAmong range lid → slice_index_or new lid None ≡ Some owner
  pub others : (lid : ℕ) → (IsAmong range lid → ⊥) → slice_index_or new lid None ≡ slice_index_or old lid None

-- the node with `guid`
abbrev pub node_of : {A : Type 0} → List (ℕ × A) → ℕ → Option A
node_of nodes guid = lookup (nat_eq guid) nodes

-- all LIDs in `range` can be owned
pub record IsLow (range : LidRange) : Type 0 where
  pub lmc : range.lmc < 8
  pub last : range.base + 2 ^ range.lmc ≤ 0xC000

-- no node has `guid`
pub record IsNew (nodes : NodesOf) (guid : ℕ) : Type 0 where
  pub switch : node_of nodes.switches guid ≡ None
  pub end : node_of nodes.ends guid ≡ None

-- all LIDs in `range` can be owned, and none of them is
pub record AreFree (nodes : NodesOf) (range : LidRange) : Type 0 where
  pub low : IsLow range
  pub free : ¬ IsTaken nodes range

-- A switch was added: it was there already, with the same values; or no node had its GUID, there was free
-- space for it, and it is now the last switch.
abbrev pub AddsSwitch : NodesOf → NodesOf → ℕ → Switch → Type 0
AddsSwitch old new guid switch = ((node_of old.switches guid ≡ Some switch) × (new ≡ old))
    ⊎ (IsNew old guid × AreFree old switch.lids × (switch.ports ≢ 255) × (length old.switches < 2 ^ 14)
    × (new ≡ record { switches = old.switches ++ (guid, switch) ∷ []; ends = old.ends }))

-- An end port was added: it was there already, with the same values; or no node had its GUID, there was free
-- space for it, and it is now the last end port.
abbrev pub AddsEnd : NodesOf → NodesOf → ℕ → LidRange → Type 0
AddsEnd old new guid lids = ((node_of old.ends guid ≡ Some lids) × (new ≡ old))
    ⊎ (IsNew old guid × AreFree old lids × (length old.ends + 1 < 2 ^ 16)
    × (new ≡ record { switches = old.switches; ends = old.ends ++ (guid, lids) ∷ [] }))

-- a node with `guid` has other values than `node`, or is of the other kind
abbrev pub IsOtherNode : {A B : Type 0} → List (ℕ × A) → List (ℕ × B) → ℕ → A → Type 0
IsOtherNode {A} nodes others guid node = ((told : A) × (node_of nodes guid ≡ Some told) × (told ≢ node))
    ⊎ ((node_of nodes guid ≡ None) × (node_of others guid ≢ None))

-- A switch is rejected, and this is the first reason.
abbrev pub IsRefusedSwitch : NodesOf → ℕ → Switch → NodeFault → Type 0
IsRefusedSwitch nodes guid switch Differs = IsOtherNode nodes.switches nodes.ends guid switch
IsRefusedSwitch nodes guid switch TooManyPorts = IsNew nodes guid × (switch.ports ≡ 255)
IsRefusedSwitch nodes guid switch TooMany =
    IsNew nodes guid × (switch.ports ≢ 255) × (2 ^ 14 ≤ length nodes.switches)
IsRefusedSwitch nodes guid switch LidsTooHigh =
    IsNew nodes guid × (switch.ports ≢ 255) × (length nodes.switches < 2 ^ 14) × (¬ IsLow switch.lids)
IsRefusedSwitch nodes guid switch LidTaken =
    IsNew nodes guid × (switch.ports ≢ 255) × (length nodes.switches < 2 ^ 14) × IsLow switch.lids
    × IsTaken nodes switch.lids

-- An end port is rejected, and this is the first reason.
abbrev pub IsRefusedEnd : NodesOf → ℕ → LidRange → NodeFault → Type 0
IsRefusedEnd nodes guid lids Differs = IsOtherNode nodes.ends nodes.switches guid lids
IsRefusedEnd nodes guid lids TooManyPorts = ⊥
IsRefusedEnd nodes guid lids TooMany = IsNew nodes guid × (2 ^ 16 ≤ length nodes.ends + 1)
IsRefusedEnd nodes guid lids LidsTooHigh =
    IsNew nodes guid × (length nodes.ends + 1 < 2 ^ 16) × (¬ IsLow lids)
IsRefusedEnd nodes guid lids LidTaken =
    IsNew nodes guid × (length nodes.ends + 1 < 2 ^ 16) × IsLow lids × IsTaken nodes lids

-- the LIDs of a new node are rejected for this reason, if `flags` say which LIDs are owned
abbrev pub AreRefused : List Bool → LidRange → NodeFault → Type 0
AreRefused flags lids Differs = ⊥
AreRefused flags lids TooManyPorts = ⊥
AreRefused flags lids TooMany = ⊥
AreRefused flags lids LidsTooHigh = ¬ IsLow lids
AreRefused flags lids LidTaken = IsLow lids × IsFlagged flags lids

-- the nodes are not too many, and their LIDs and ports are not too high
pub record AreNodes (nodes : NodesOf) : Type 0 where
  pub few : length nodes.switches ≤ 2 ^ 14
  pub few_ends : length nodes.ends < 2 ^ 16
  pub ports : All (λ n. n.1.ports < 255) nodes.switches
  pub low : All (λ n. IsLow n.1.lids) nodes.switches
  pub low_ends : All (λ n. IsLow n.1) nodes.ends
  pub one : HasOneOwner nodes
