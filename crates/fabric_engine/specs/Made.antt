-- The shape of tables that the engine makes.

use Rattle.std.specs.Prelude.{◌≡◌, ◌≤◌, ◌*◌, ℕ, None, length}
use Rattle.fabric_model.specs.Fabric.{FabricOf, owner_of, switch_count}
use Rattle.fabric_tables.specs.Cells.{CellsOf, tables_of}

-- `cells` has a cell for each switch and each LID that has an owner, and none for LIDs that cannot have one;
-- switches have ports only for LIDs with owners
pub record AreTablesFor (fabric : FabricOf) (cells : CellsOf) : Type 0 where
  pub switches : cells.switches ≡ switch_count fabric
  pub lids : length fabric.owners ≤ 64 * cells.blocks
  pub low : 64 * cells.blocks ≤ 0xC000
  pub owned : (switch lid : ℕ) → owner_of fabric lid ≡ None → tables_of cells switch lid ≡ None
