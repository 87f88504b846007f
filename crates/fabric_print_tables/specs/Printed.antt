-- The lines of the text, and what they say so far. Only private functions cite this.

use Rattle.std.specs.Prelude.{◌≡◌, ◌⊎◌, ◌+◌, ◌<◌, ◌/◌, ◌%◌, ℕ, List, [], ◌∷◌, ◌++◌, codes, None, nat_lt, if◌then◌else◌}
use Rattle.std.specs.Fmt.{decimal}
use Rattle.common_lines.specs.Chains.{LeadsBy}
use Rattle.common_lines.specs.Words.{hex_text}
use Rattle.fabric_model.specs.Fabric.{FabricOf}
use Rattle.fabric_tables.specs.Cells.{TablesOf}
use Rattle.fabric_read_tables.specs.declared.reading.Part.{Part}
use Rattle.fabric_read_tables.specs.declared.reading.Part.TheVariants.{Start, Between}
use Rattle.fabric_read_lines.specs.Pieces.{AreLinesOf}
use Rattle.fabric_routes.specs.Counting.{IsCountOf}
use Rattle.fabric_read_tables.specs.Tables.{Told, none_told, AddsTo}
use Rattle.fabric_print_tables.specs.Texts.{Cell, IsFilled, IsFilledUnowned, guid_word}

-- a LID in four hexadecimal digits, a port in three decimal ones
abbrev pub lid_word : ℕ → List ℕ
lid_word lid = codes "0x" ++ hex_text 4 lid

abbrev pub port_word : ℕ → List ℕ
port_word port = (48 + port / 100) ∷ (48 + port / 10 % 10) ∷ (48 + port % 10) ∷ []

-- the words of the head of the table of a switch, of a row, and of the last line of the table
abbrev pub head_words : ℕ → List (List ℕ)
head_words guid =
    codes "Unicast" ∷ codes "lids" ∷ codes "of" ∷ codes "switch" ∷ codes "guid" ∷ guid_word guid ∷ []

abbrev pub row_words : (lid port : ℕ) → List (List ℕ)
row_words lid port = lid_word lid ∷ port_word port ∷ []

abbrev pub end_words : ℕ → List (List ℕ)
end_words count = decimal count ∷ codes "lids" ∷ codes "dumped" ∷ []

-- a cell is of a switch before this one, or of this one and a LID before this one
abbrev pub IsBefore : (switch lid : ℕ) → (other_switch other_lid : ℕ) → Type 0
IsBefore switch lid other_switch other_lid =
    (other_switch < switch) ⊎ ((other_switch ≡ switch) × (other_lid < lid))

-- so many cells of a kind are before this one
abbrev pub IsCountBefore : (Is : Cell → Type 0) → (switch lid count : ℕ) → Type 0
IsCountBefore Is switch lid = IsCountOf (λ cell. IsBefore switch lid cell.switch cell.lid × Is cell)

-- the bytes are whole lines, the cells before this one were told, each once, and no others, and the next line stands in
-- this part
pub record HasPrinted (fabric : FabricOf) (tables : TablesOf) (bytes : List ℕ) (part : Part) (switch lid : ℕ)
    : Type 0 where
  pub lines : List (List ℕ)
  pub whole : AreLinesOf lines bytes
  pub told : Told
  pub good : LeadsBy (AddsTo fabric) none_told lines told
  pub part_is : told.part ≡ part
  pub ports :
      (other_switch other_lid : ℕ) → IsBefore switch lid other_switch other_lid
      → told.tables other_switch other_lid ≡ tables other_switch other_lid
  pub no_more :
      (other_switch other_lid : ℕ) → (IsBefore switch lid other_switch other_lid → ⊥)
      → told.tables other_switch other_lid ≡ None
  pub rows : IsCountBefore (IsFilled tables) switch lid told.rows
  pub unowned : IsCountBefore (IsFilledUnowned fabric tables) switch lid told.unowned

-- the two lines of the text of tables of no switches
abbrev pub none_rows : List (List (List ℕ))
none_rows = (codes "tables" ∷ codes "1" ∷ []) ∷ (codes "end" ∷ []) ∷ []

-- the part in which the first line of the table of a switch stands
abbrev pub part_at : ℕ → Part
part_at switch = if nat_lt 0 switch then Between else Start
