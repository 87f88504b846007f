-- The link by which a switch sends what goes to a LID.
use Rattle.std.specs.Prelude.{◌≡◌, ℕ, Some}
use Rattle.fabric_model.specs.declared.node.Side.TheVariants.{To}
use Rattle.fabric_model.specs.declared.node.Spot.{Spot}
use Rattle.fabric_model.specs.Fabric.{FabricOf, side_of}
use Rattle.fabric_tables.specs.Cells.{TablesOf}
use Rattle.fabric_routes.specs.Waves.{IsLink}

-- the table of a switch has a port for the LID, which leads to a port of a switch
pub record IsWay (fabric : FabricOf) (tables : TablesOf) (lid switch port : ℕ) (next : Spot) : Type 0 where
  pub told : tables switch lid ≡ Some port
  pub leads : side_of fabric switch port ≡ To next.switch next.port

-- it has none that leads to a switch
abbrev pub HasNoWay : FabricOf → TablesOf → ℕ → ℕ → Type 0
HasNoWay fabric tables lid switch = (port : ℕ) (next : Spot) → IsWay fabric tables lid switch port next → ⊥

-- .. and it is a link of the fabric
abbrev pub IsWayByLink : FabricOf → TablesOf → ℕ → ℕ → ℕ → Spot → Type 0
IsWayByLink fabric tables lid switch port next =
    IsWay fabric tables lid switch port next × IsLink fabric switch port next.switch
