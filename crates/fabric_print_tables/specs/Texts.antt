-- What is printed of the tables of a fabric.

use Rattle.std.specs.Prelude.{◌≡◌, ◌++◌, ℕ, List, Some, None, codes}
use Rattle.common_lines.specs.Words.{hex_text}
use Rattle.fabric_model.specs.Fabric.{FabricOf, owner_of}
use Rattle.fabric_tables.specs.Cells.{TablesOf}
use Rattle.fabric_routes.specs.Counting.{IsCountOf}
use Rattle.fabric_read_tables.specs.Tables.{IsTablesText}

-- a switch and a LID
pub record Cell : Type 0 where
  pub switch : ℕ
  pub lid : ℕ

-- the switch has a port for the LID; and nobody owns the LID
abbrev pub IsFilled : TablesOf → Cell → Type 0
IsFilled tables cell = (port : ℕ) × (tables cell.switch cell.lid ≡ Some port)

abbrev pub IsFilledUnowned : FabricOf → TablesOf → Cell → Type 0
IsFilledUnowned fabric tables cell = IsFilled tables cell × (owner_of fabric cell.lid ≡ None)

-- the bytes are the text of these tables, with one row for each port, whoever owns its LID
pub record IsTextOf (fabric : FabricOf) (bytes : List ℕ) (tables : TablesOf) : Type 0 where
  pub rows : ℕ
  pub unowned : ℕ
  pub text : IsTablesText fabric bytes tables rows unowned
  pub rows_are : IsCountOf (IsFilled tables) rows
  pub unowned_are : IsCountOf (IsFilledUnowned fabric tables) unowned

-- a GUID in sixteen hexadecimal digits
abbrev pub guid_word : ℕ → List ℕ
guid_word guid = codes "0x" ++ hex_text 16 guid
