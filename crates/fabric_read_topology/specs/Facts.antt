-- What facts add to a fabric: first nodes, and then links between them.
use Rattle.std.specs.Prelude.{◌≡◌, ◌≢◌, ◌==◌, ◌≤◌, ◌⊎◌, ℕ, Option, Some, None, if◌then◌else◌}
use Rattle.std.specs.Prelude.{List, fold, option_to_list}
use Rattle.std.specs.Option.{option_map, option_or}
use Rattle.common_lines.specs.declared.stop.Stop.{Stop}
use Rattle.common_lines.specs.declared.stop.Stop.TheVariants.{Fault, OutOfMemory}
use Rattle.fabric_model.specs.declared.node.EndPort.{EndPort}
use Rattle.fabric_model.specs.declared.node.EndPort.TheVariants as port
use Rattle.fabric_model.specs.declared.node.LidRange.{LidRange}
use Rattle.fabric_model.specs.declared.node.LinkFault.{LinkFault}
use Rattle.fabric_model.specs.declared.node.NodeFault.{NodeFault}
use Rattle.fabric_model.specs.declared.node.Spot.{Spot}
use Rattle.fabric_model.specs.declared.node.Switch.{Switch}
use Rattle.fabric_model.specs.Nodes.{NodesOf, AddsEnd, AddsSwitch, IsRefusedEnd, IsRefusedSwitch}
use Rattle.fabric_model.specs.Fabric.{FabricOf, IsCabledTo, IsLinked, IsRefusedCable, IsRefusedLink}
use Rattle.fabric_model.specs.Fabric.{MayCable, MayLink, end_with, owner_of, switch_with}
use Rattle.fabric_topology.specs.declared.fact.Fact.{Fact}
use Rattle.fabric_topology.specs.declared.fact.Fact.TheVariants as fact
use Rattle.fabric_topology.specs.declared.fact.PortTold.{PortTold}
use Rattle.fabric_topology.specs.declared.fact.PortTold.TheVariants.{OfSwitch, OfHost}
use Rattle.fabric_topology.specs.Unset.{put_once, unset_end}
use Rattle.fabric_read_topology.specs.declared.cause.FabricCause.{FabricCause}
use Rattle.fabric_read_topology.specs.declared.cause.FabricCause.TheVariants.{Text, Range, Node, Link, LidDiffers}
use Rattle.fabric_read_topology.specs.declared.cause.FabricCause.TheVariants.{UnknownSwitch}

-- the base LID that `number` means: 65535 means none, as 0 does
abbrev pub base_of : ℕ → ℕ
base_of number = if number == 0xFFFF then 0 else number

-- `range_of`: the LIDs from a base on; `switch_of`: a switch with these LIDs
abbrev pub range_of : ℕ → ℕ → LidRange
range_of base lmc = record { base = base_of base; lmc = lmc }

abbrev pub switch_of : ℕ → ℕ → ℕ → Switch
switch_of ports base lmc = record { ports = ports; lids = range_of base lmc }

-- `base` and `lmc` can be a base LID and an LMC
pub record AreLids (base lmc : ℕ) : Type 0 where
  pub low : base_of base ≤ 0xBFFF
  pub small : lmc ≤ 255

-- the node of the fact is added, if the fact gives one
abbrev pub AddsNode : NodesOf → Fact → NodesOf → Type 0
AddsNode old (fact.Switch guid ports base lmc) new =
    (ports ≤ 255) × AreLids base lmc × AddsSwitch old new guid (switch_of ports base lmc)
AddsNode old (fact.Host guid base lmc) new = AreLids base lmc × AddsEnd old new guid (range_of base lmc)
AddsNode old (fact.Link one other) new = new ≡ old
AddsNode old (fact.Neighbour guid base) new = new ≡ old
AddsNode old (fact.HasSwitch guid) new = new ≡ old

-- the end port of the fact is noted, if it has the base LID 65535
abbrev pub AddsUnset : List ℕ → Fact → List ℕ → Type 0
AddsUnset old said new = new ≡ fold put_once old (option_to_list (unset_end said))

-- the reason is that a number is out of range, or one for which the node is rejected
abbrev pub IsNodeCause : Type 0 → (NodeFault → Type 0) → FabricCause → Type 0
IsNodeCause range refused Range = ¬ range
IsNodeCause range refused (Node fault) = range × refused fault
IsNodeCause range refused (Text fault) = ⊥
IsNodeCause range refused (Link fault) = ⊥
IsNodeCause range refused LidDiffers = ⊥
IsNodeCause range refused UnknownSwitch = ⊥

-- the reason for which a node stops the reader
abbrev pub node_stop : Stop NodeFault → Stop FabricCause
node_stop (Fault fault) = Fault (Node fault)
node_stop OutOfMemory = OutOfMemory

-- the node of the fact is rejected for this reason
abbrev pub IsFaultyNode : NodesOf → Fact → FabricCause → Type 0
IsFaultyNode old (fact.Switch guid ports base lmc) cause =
    IsNodeCause ((ports ≤ 255) × AreLids base lmc) (IsRefusedSwitch old guid (switch_of ports base lmc)) cause
IsFaultyNode old (fact.Host guid base lmc) cause =
    IsNodeCause (AreLids base lmc) (IsRefusedEnd old guid (range_of base lmc)) cause
IsFaultyNode old (fact.Link one other) cause = ⊥
IsFaultyNode old (fact.Neighbour guid base) cause = ⊥
IsFaultyNode old (fact.HasSwitch guid) cause = ⊥

abbrev pub spot_of : ℕ → ℕ → Spot
spot_of switch port = record { switch = switch; port = port }

-- Two ports of switches are linked, by the indices of the switches; if the text has no such switch, nothing
-- changes.
abbrev pub LinksPorts : FabricOf → Option ℕ → ℕ → Option ℕ → ℕ → FabricOf → Type 0
LinksPorts old None port other far new = new ≡ old
LinksPorts old (Some switch) port None far new = new ≡ old
LinksPorts old (Some switch) port (Some other) far new =
    MayLink old (spot_of switch port) (spot_of other far)
    × IsLinked old new (spot_of switch port) (spot_of other far)

-- an end port is cabled to the port of a switch; if the text has no such end port or switch, nothing changes
abbrev pub CablesPort : FabricOf → Option ℕ → ℕ → Option ℕ → FabricOf → Type 0
CablesPort old None port end new = new ≡ old
CablesPort old (Some switch) port None new = new ≡ old
CablesPort old (Some switch) port (Some end) new =
    MayCable old end (spot_of switch port) × IsCabledTo old new end (spot_of switch port)

-- two ports are joined
abbrev pub Joins : FabricOf → PortTold → PortTold → FabricOf → Type 0
Joins old (OfSwitch guid port) (OfSwitch other far) new =
    LinksPorts old (switch_with old guid) port (switch_with old other) far new
Joins old (OfSwitch guid port) (OfHost end) new =
    CablesPort old (switch_with old guid) port (end_with old end) new
Joins old (OfHost end) (OfSwitch guid port) new =
    CablesPort old (switch_with old guid) port (end_with old end) new
Joins old (OfHost end) (OfHost other) new = new ≡ old

-- the switch or end port with a GUID
abbrev pub node_with : FabricOf → ℕ → Option EndPort
node_with fabric guid =
    option_or (option_map port.Switch (switch_with fabric guid)) (option_map port.Host (end_with fabric guid))

-- `lid` belongs to the end port, if the text has it; 0 always does
abbrev pub IsLidOf : FabricOf → Option EndPort → ℕ → Type 0
IsLidOf fabric None lid = Unit {0}
IsLidOf fabric (Some owner) lid = (lid ≡ 0) ⊎ (owner_of fabric lid ≡ Some owner)

-- by this fact, a link is added, a neighbour's LID is right, or the switch that a line names is there
abbrev pub AddsLink : FabricOf → Fact → FabricOf → Type 0
AddsLink old (fact.Switch guid ports base lmc) new = new ≡ old
AddsLink old (fact.Host guid base lmc) new = new ≡ old
AddsLink old (fact.Link one other) new = Joins old one other new
AddsLink old (fact.Neighbour guid base) new =
    IsLidOf old (node_with old guid) (base_of base) × (new ≡ old)
AddsLink old (fact.HasSwitch guid) new = (switch_with old guid ≢ None) × (new ≡ old)

-- `IsNoLink`: two ports cannot be linked, for this reason; `IsNoCable`: an end port and a port cannot be
-- cabled
abbrev pub IsNoLink : FabricOf → Option ℕ → ℕ → Option ℕ → ℕ → LinkFault → Type 0
IsNoLink old None port other far fault = ⊥
IsNoLink old (Some switch) port None far fault = ⊥
IsNoLink old (Some switch) port (Some other) far fault =
    IsRefusedLink old (spot_of switch port) (spot_of other far) fault

abbrev pub IsNoCable : FabricOf → Option ℕ → ℕ → Option ℕ → LinkFault → Type 0
IsNoCable old None port end fault = ⊥
IsNoCable old (Some switch) port None fault = ⊥
IsNoCable old (Some switch) port (Some end) fault = IsRefusedCable old end (spot_of switch port) fault

-- two ports, as the text gives them, cannot be joined, for this reason
abbrev pub CannotJoin : FabricOf → PortTold → PortTold → LinkFault → Type 0
CannotJoin old (OfSwitch guid port) (OfSwitch other far) fault =
    IsNoLink old (switch_with old guid) port (switch_with old other) far fault
CannotJoin old (OfSwitch guid port) (OfHost end) fault =
    IsNoCable old (switch_with old guid) port (end_with old end) fault
CannotJoin old (OfHost end) (OfSwitch guid port) fault =
    IsNoCable old (switch_with old guid) port (end_with old end) fault
CannotJoin old (OfHost end) (OfHost other) fault = ⊥

-- the reason is one for which the link is rejected
abbrev pub IsLinkCause : (LinkFault → Type 0) → FabricCause → Type 0
IsLinkCause refused (Link fault) = refused fault
IsLinkCause refused (Text fault) = ⊥
IsLinkCause refused Range = ⊥
IsLinkCause refused (Node fault) = ⊥
IsLinkCause refused LidDiffers = ⊥
IsLinkCause refused UnknownSwitch = ⊥

-- the link of the fact, its LID of a neighbour, or the switch that it names, is rejected for this reason
abbrev pub IsFaultyLink : FabricOf → Fact → FabricCause → Type 0
IsFaultyLink old (fact.Switch guid ports base lmc) cause = ⊥
IsFaultyLink old (fact.Host guid base lmc) cause = ⊥
IsFaultyLink old (fact.Link one other) cause = IsLinkCause (CannotJoin old one other) cause
IsFaultyLink old (fact.Neighbour guid base) cause =
    (cause ≡ LidDiffers) × (¬ IsLidOf old (node_with old guid) (base_of base))
IsFaultyLink old (fact.HasSwitch guid) cause = (cause ≡ UnknownSwitch) × (switch_with old guid ≡ None)
