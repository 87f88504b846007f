-- The switch that owns a LID is there.
use Rattle.std.proofs.Common.{◌≡◌, ℕ, ◌<◌, Some}
use Rattle.std.proofs.lemmas.Option.{slice_get_within}
use Rattle.fabric_model.specs.declared.node.EndPort.TheVariants as port
use Rattle.fabric_model.specs.Fabric.{FabricOf, IsFabric, owner_of, switch_count}

pub owner_low : (fabric : FabricOf) → IsFabric fabric → (lid switch : ℕ) → owner_of fabric lid ≡ Some (port.Switch switch) → switch < switch_count fabric
owner_low fabric fits lid switch is =
    let owns = (fits.owners lid (port.Switch switch)).0 is in
    slice_get_within fabric.nodes.switches switch owns.0 owns.1
