-- The words for each reason.
use Rattle.std.specs.Prelude.{ℕ, List, codes}
use Rattle.fabric_model.specs.declared.node.LinkFault.{LinkFault}
use Rattle.fabric_model.specs.declared.node.LinkFault.TheVariants.{NoPort, Differs as LinkDiffers}
use Rattle.fabric_model.specs.declared.node.NodeFault.{NodeFault}
use Rattle.fabric_model.specs.declared.node.NodeFault.TheVariants.{Differs, LidsTooHigh, LidTaken}
use Rattle.fabric_model.specs.declared.node.NodeFault.TheVariants.{TooManyPorts, TooMany}
use Rattle.fabric_topology.specs.declared.cause.TopologyCause.{TopologyCause}
use Rattle.fabric_topology.specs.declared.cause.TopologyCause.TheVariants.{LineTooLong, UnknownLine, NoEnd}
use Rattle.fabric_read_topology.specs.declared.cause.FabricCause.{FabricCause}
use Rattle.fabric_read_topology.specs.declared.cause.FabricCause.TheVariants.{Text, Range, Node, Link, LidDiffers}
use Rattle.fabric_read_topology.specs.declared.cause.FabricCause.TheVariants.{UnknownSwitch}

abbrev pub form_text : TopologyCause → List ℕ
form_text LineTooLong = codes "line too long"
form_text UnknownLine = codes "unknown line"
form_text NoEnd = codes "no end"

abbrev pub node_text : NodeFault → List ℕ
node_text Differs = codes "node differs"
node_text LidsTooHigh = codes "lid range"
node_text LidTaken = codes "lid taken"
node_text TooManyPorts = codes "too many ports"
node_text TooMany = codes "too many nodes"

abbrev pub link_text : LinkFault → List ℕ
link_text NoPort = codes "no such port"
link_text LinkDiffers = codes "link differs"

abbrev pub cause_text : FabricCause → List ℕ
cause_text (Text cause) = form_text cause
cause_text Range = codes "number range"
cause_text (Node fault) = node_text fault
cause_text (Link fault) = link_text fault
cause_text LidDiffers = codes "lid differs"
cause_text UnknownSwitch = codes "unknown switch"
