-- The text of a fabric. It is read twice: for its forms and nodes, and then for the links between them,
-- because a link can precede its nodes.
use Rattle.std.specs.Prelude.{◌⊎◌, ℕ, List, []}
use Rattle.fabric_model.specs.Fabric.{FabricOf, IsBareOf}
use Rattle.fabric_model.specs.Nodes.{NodesOf}
use Rattle.fabric_read_topology.specs.declared.cause.FabricCause.{FabricCause}
use Rattle.fabric_read_topology.specs.Facts.{AddsLink, AddsNode, IsFaultyLink, IsFaultyNode}
use Rattle.fabric_read_topology.specs.Lines.{IsFaultFrom, IsTextFrom}

abbrev pub no_nodes : NodesOf
no_nodes = record { switches = []; ends = [] }

-- `bytes` describe the nodes of `fabric`, which has no links yet
pub record HasNodes (bytes : List ℕ) (fabric : FabricOf) : Type 0 where
  pub nodes : NodesOf
  pub told : IsTextFrom AddsNode no_nodes bytes nodes
  pub bare : IsBareOf nodes fabric

-- `bytes` are the text of `fabric`: it has their nodes and their links
pub record IsFabricText (bytes : List ℕ) (fabric : FabricOf) : Type 0 where
  pub bare : FabricOf
  pub nodes : HasNodes bytes bare
  pub links : IsTextFrom AddsLink bare bytes fabric

-- the nodes in `bytes` are valid, and the first line with an error has an invalid link
pub record HasFaultyLink (bytes : List ℕ) (line : ℕ) (cause : FabricCause) : Type 0 where
  pub bare : FabricOf
  pub nodes : HasNodes bytes bare
  pub fault : IsFaultFrom AddsLink IsFaultyLink bare bytes line cause

-- the first error of the bytes is in this line and for this reason; an error in a form or node precedes one
-- in a link
abbrev pub IsFault : List ℕ → ℕ → FabricCause → Type 0
IsFault bytes line cause =
    IsFaultFrom AddsNode IsFaultyNode no_nodes bytes line cause ⊎ HasFaultyLink bytes line cause
