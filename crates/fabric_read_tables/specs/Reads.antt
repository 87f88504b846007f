-- What a source gave, as the text of tables of a fabric.

use Rattle.std.specs.Prelude.{◌≡◌, ◌≤◌, ◌*◌, ℕ, List, None, length}
use Rattle.outside.specs.Told.{Seen, Gave, IsAtEnd}
use Rattle.fabric_model.specs.Fabric.{FabricOf, switch_count}
use Rattle.fabric_tables.specs.Cells.{tables_of}
use Rattle.fabric_read_lines.specs.Texts.{IsRefusedBy as IsRefusedFrom}
use Rattle.fabric_read_lines.specs.declared.reader.TextRefusal.{TextRefusal}
use Rattle.fabric_read_tables.specs.declared.cause.TablesCause.{TablesCause}
use Rattle.fabric_read_tables.specs.declared.cause.TablesCause.TheVariants.{NoEnd, TooMany}
use Rattle.fabric_read_tables.specs.declared.reader.Tables.{Tables}
use Rattle.fabric_read_tables.specs.Tables.{none_told, AddsTo, IsEnded, IsFaultyAfter, IsTablesText}

-- a source was read to its end, and what it gave is the text of these tables
pub record GaveTables (fabric : FabricOf) (old new : Seen) (found : Tables) : Type 0 where
  pub bytes : List ℕ
  pub gave : Gave old new bytes
  pub end : IsAtEnd new
  pub text : IsTablesText fabric bytes (tables_of found.cells) found.rows found.unowned

-- there is a cell for each switch and each LID that has an owner, and maybe for more unicast LIDs; none has a port for
-- LID 0, which is reserved
pub record HasCells (fabric : FabricOf) (found : Tables) : Type 0 where
  pub switches : found.cells.switches ≡ switch_count fabric
  pub lids : length fabric.owners ≤ 64 * found.cells.blocks
  pub most : 64 * found.cells.blocks ≤ 0xC000
  pub reserved : (switch : ℕ) → tables_of found.cells switch 0 ≡ None

-- why there are no tables: what the source gave has this fault, it failed, or no memory was found
abbrev pub IsRefusedBy : FabricOf → (old new : Seen) → TextRefusal TablesCause → Type 0
IsRefusedBy fabric old new =
    IsRefusedFrom (AddsTo fabric) (IsFaultyAfter fabric) IsEnded NoEnd TooMany old new none_told
