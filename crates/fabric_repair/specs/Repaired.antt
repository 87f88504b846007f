-- The shape of tables that were repaired.

use Rattle.std.specs.Prelude.{◌≡◌, ◌⊎◌, ℕ, None}
use Rattle.fabric_model.specs.Fabric.{FabricOf, owner_of, switch_count}
use Rattle.fabric_tables.specs.Cells.{CellsOf, TablesOf, tables_of}

-- a switch has a port for a LID if it had one
abbrev pub HasKept : (old new : TablesOf) → (switch lid : ℕ) → Type 0
HasKept old new switch lid = new switch lid ≡ None → old switch lid ≡ None

abbrev pub AllKept : (old new : TablesOf) → Type 0
AllKept old new = (switch lid : ℕ) → HasKept old new switch lid

-- they have as many cells as the given ones, and no port was taken away; for a LID that nobody owns each switch has the
-- port that it had, or none if it had none
pub record AreRepairedOf (fabric : FabricOf) (given made : CellsOf) : Type 0 where
  pub switches : made.switches ≡ switch_count fabric
  pub blocks : made.blocks ≡ given.blocks
  pub kept : AllKept (tables_of given) (tables_of made)
  pub unowned :
      (switch lid : ℕ) → owner_of fabric lid ≡ None → tables_of made switch lid ≡ tables_of given switch lid

-- each port is as it was, or that of given tables
abbrev pub AreFilledFrom : (given old new : TablesOf) → Type 0
AreFilledFrom given old new =
    (switch lid : ℕ) → (new switch lid ≡ old switch lid) ⊎ (new switch lid ≡ given switch lid)
