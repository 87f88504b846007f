-- A side in four bytes, and the parts of a fabric. Only private functions cite this.
use Rattle.std.specs.Prelude.{◌≡◌, ◌<◌, ◌-◌, ◌/◌, ◌%◌, ◌^◌, ℕ, List, length, if◌then◌else◌, nat_lt, map}
use Rattle.fabric_model.specs.declared.node.Spot.{Spot}
use Rattle.fabric_model.specs.declared.node.Side.{Side}
use Rattle.fabric_model.specs.declared.node.Side.TheVariants.{Bare, To, End}
use Rattle.fabric_model.specs.declared.node.LidRange.{LidRange}
use Rattle.fabric_model.specs.declared.node.Switch.{Switch}
use Rattle.fabric_model.specs.declared.fabric.Parts.{Parts}
use Rattle.fabric_model.specs.Fabric.{FabricOf, IsOther, side_of}
use Rattle.fabric_model.specs.Nodes.{NodesOf}

-- the side that `word` encodes: a port of a switch has the switch in the upper bytes and the port in the
-- lowest; an end port is encoded from 2 ^ 30 on, and a bare port from 2 ^ 31 on
abbrev pub side_in : ℕ → Side
side_in word = if nat_lt word (2 ^ 30)
    then To (word / 256) (word % 256)
    else (if nat_lt word (2 ^ 31) then End (word - 2 ^ 30) else Bare)

abbrev pub sides_in : List ℕ → List Side
sides_in words = map side_in words

-- the side can be encoded in four bytes
abbrev pub IsSmall : Side → Type 0
IsSmall (To next entry) = next < 2 ^ 22
IsSmall (End end) = end < 2 ^ 30
IsSmall Bare = Unit {0}

-- an end port, if the side leads to one, can be encoded
abbrev pub IsSmallEnd : Side → Type 0
IsSmallEnd (To next entry) = Unit {0}
IsSmallEnd (End end) = end < 2 ^ 16
IsSmallEnd Bare = Unit {0}

-- the port at `spot` leads to `side` in `new`, and all else is as in `old`
pub record IsSideSet (old new : FabricOf) (spot : Spot) (side : Side) : Type 0 where
  pub count : length new.sides ≡ length old.sides
  pub there : side_of new spot.switch spot.port ≡ side
  pub others :
      (switch port : ℕ) → IsOther spot switch port → side_of new switch port ≡ side_of old switch port
  pub rest : new ≡ record old { sides = new.sides }

-- the nodes with these switches and end ports, and the fabric with these nodes and parts
abbrev pub nodes_in : List (ℕ × Switch) → List (ℕ × LidRange) → NodesOf
nodes_in switches ends = record { switches = switches; ends = ends }

abbrev pub fabric_in : NodesOf → Parts → FabricOf
fabric_in nodes parts = record {
  nodes = nodes;
  most = parts.most;
  sides = sides_in parts.sides.items;
  cables = parts.cables.items;
  owners = parts.owners.items;
}
