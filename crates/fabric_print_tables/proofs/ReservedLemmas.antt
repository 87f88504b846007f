-- LID 0 is reserved: nobody owns it.
use Rattle.std.proofs.Common.{◌≡◌, refl, ℕ, Option, Some, None, arith}
use Rattle.fabric_model.specs.declared.node.EndPort.{EndPort}
use Rattle.fabric_model.specs.declared.node.EndPort.TheVariants as port
use Rattle.fabric_model.specs.Nodes.{IsAmong, NodesOf, Owns}
use Rattle.fabric_model.specs.declared.node.LidRange.{LidRange}
use Rattle.fabric_model.specs.Fabric.{FabricOf, IsFabric, owner_of}

not_among : (range : LidRange) → IsAmong range 0 → ⊥
not_among range is = absurd (omega (arith, is.some, is.first))

not_owned : (nodes : NodesOf) (owner : EndPort) → Owns nodes owner 0 → ⊥
not_owned nodes (port.Host end) (node, there, among) = not_among node.1 among
not_owned nodes (port.Switch switch) (node, there, among) = not_among node.1.lids among

nobody : (fabric : FabricOf) → IsFabric fabric → (owner : Option EndPort) → owner_of fabric 0 ≡ owner → owner ≡ None
nobody fabric is None at = refl
nobody fabric is (Some owner) at = absurd (not_owned fabric.nodes owner ((is.owners 0 owner).0 at))

pub reserved : (fabric : FabricOf) → IsFabric fabric → owner_of fabric 0 ≡ None
reserved fabric is = nobody fabric is (owner_of fabric 0) refl
