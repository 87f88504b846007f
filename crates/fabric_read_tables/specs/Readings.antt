-- What a reader keeps of the lines so far. Only private functions cite this.

use Rattle.std.specs.Prelude.{◌≡◌, ◌<◌, ◌≤◌, ◌*◌, ℕ, length, Option, Some, None, IfSome, ⊤}
use Rattle.fabric_model.specs.Fabric.{FabricOf, switch_count}
use Rattle.fabric_tables.specs.Cells.{tables_of}
use Rattle.fabric_read_tables.specs.declared.line.TableLine.{TableLine}
use Rattle.fabric_read_tables.specs.declared.line.TableLine.TheVariants.{ListedRow, PlainRow, Row}
use Rattle.fabric_read_tables.specs.declared.reading.Reading.{Reading}
use Rattle.fabric_read_tables.specs.declared.reading.Part.{Part}
use Rattle.fabric_read_tables.specs.declared.reading.Part.TheVariants.{Dumped, Listed, PlainOf}
use Rattle.fabric_read_tables.specs.Tables.{Told}

-- what it has of them
abbrev pub told_of : Reading → Told
told_of reading =
    record {
      part = reading.part;
      tables = tables_of reading.cells;
      rows = reading.rows;
      unowned = reading.unowned;
    }

-- the switch of which the next rows are
abbrev pub switch_in : Part → Option ℕ
switch_in (Dumped switch) = Some switch
switch_in (PlainOf switch) = Some switch
switch_in (Listed switch) = Some switch
switch_in part = None

-- a row is for a unicast LID
abbrev pub IsUnicast : TableLine → Type 0
IsUnicast (Row lid port) = lid ≤ 0xbfff
IsUnicast (ListedRow lid port) = lid ≤ 0xbfff
IsUnicast (PlainRow lid port) = lid ≤ 0xbfff
IsUnicast line = ⊤

-- there is a cell for each switch and each LID that has an owner, and maybe for more unicast LIDs; rows belong to a switch
-- that there is; rows for LIDs that nobody owns are among all, and none is for LID 0
pub record IsFit (fabric : FabricOf) (reading : Reading) : Type 0 where
  pub switches : reading.cells.switches ≡ switch_count fabric
  pub lids : length fabric.owners ≤ 64 * reading.cells.blocks
  pub most : 64 * reading.cells.blocks ≤ 0xC000
  pub within : IfSome (switch_in reading.part) (λ switch. switch < switch_count fabric)
  pub unowned : reading.unowned ≤ reading.rows
  pub reserved : (switch : ℕ) → tables_of reading.cells switch 0 ≡ None

-- a line adds no row
pub record KeepsRows (old new : Reading) : Type 0 where
  pub cells : new.cells ≡ old.cells
  pub rows : new.rows ≡ old.rows
  pub unowned : new.unowned ≡ old.unowned
