-- The text of the tables of a fabric.

use Rattle.std.specs.Prelude.{◌≡◌, ◌+◌, ◌<◌, ◌==◌, ◌||◌, ℕ, Bool, true, false, List, length, ⊤, if◌then◌else◌}
use Rattle.std.specs.Prelude.{Option, Some, None, is_none, Result, Ok, Err}
use Rattle.std.proofs.Common.{ap}
use Rattle.common_lines.specs.Lines.{lines_of}
use Rattle.common_lines.specs.Chains.{LeadsBy, IsFaultOf}
use Rattle.fabric_words.specs.Says.{and_then}
use Rattle.fabric_words.proofs.StepLemmas.{long_err}
use Rattle.fabric_model.specs.Fabric.{FabricOf, owner_of, switch_with}
use Rattle.fabric_tables.specs.Cells.{TablesOf, with_port}
use Rattle.fabric_read_tables.specs.declared.line.TableLine.{TableLine}
use Rattle.fabric_read_tables.specs.declared.line.TableLine.TheVariants.{Nothing, Head, Row, End, PlainHead, PlainSwitch}
use Rattle.fabric_read_tables.specs.declared.line.TableLine.TheVariants.{PlainRow, PlainEnd, ListedHead, ListedRow}
use Rattle.fabric_read_tables.specs.declared.reading.Part.{Part}
use Rattle.fabric_read_tables.specs.declared.reading.Part.TheVariants.{Start, Between, Dumped, Plain, PlainOf, Listed}
use Rattle.fabric_read_tables.specs.declared.cause.TablesCause.{TablesCause}
use Rattle.fabric_read_tables.specs.declared.cause.TablesCause.TheVariants.{LineTooLong, UnknownLine, UnknownSwitch, OutOfPlace, NoEnd}
use Rattle.fabric_read_tables.specs.declared.cause.TablesCause.TheVariants.{PortDiffers}
use Rattle.fabric_read_tables.specs.TableLines.{said_in}

-- What lines say so far: in which part of the text the next one stands, the ports, and how many rows named a
-- port, for any LID and for LIDs that nobody owns.
pub record Told : Type 0 where
  pub part : Part
  pub tables : TablesOf
  pub rows : ℕ
  pub unowned : ℕ

-- no switch has a port for any LID
abbrev pub no_ports : TablesOf
no_ports switch lid = None

-- what no lines say
abbrev pub none_told : Told
none_told = record { part = Start; tables = no_ports; rows = 0; unowned = 0 }

-- whether a table of a dump is open, whether a plain text is, and whether a table of a list is
abbrev pub is_dump : Part → Bool
is_dump (Dumped switch) = true
is_dump part = false

abbrev pub is_plain : Part → Bool
is_plain Plain = true
is_plain (PlainOf switch) = true
is_plain part = false

abbrev pub is_list : Part → Bool
is_list (Listed switch) = true
is_list part = false

-- the switch to which a row of a dump belongs, one of a list, and one in plain words: where a part of one form is open,
-- rows of the others are unknown
abbrev pub switch_dumped : Part → Result ℕ TablesCause
switch_dumped (Dumped switch) = Ok switch
switch_dumped part = if is_plain part || is_list part then Err UnknownLine else Err OutOfPlace

abbrev pub switch_listed : Part → Result ℕ TablesCause
switch_listed (Listed switch) = Ok switch
switch_listed part = if is_plain part || is_dump part then Err UnknownLine else Err OutOfPlace

abbrev pub switch_plain : Part → Result ℕ TablesCause
switch_plain (PlainOf switch) = Ok switch
switch_plain part = if is_dump part || is_list part then Err UnknownLine else Err OutOfPlace

-- what is told after a line, or why the line is faulty
abbrev pub Step : Type 0
Step = Result Told TablesCause

abbrev pub at_part : Told → Part → Told
at_part told part = record told { part = part }

-- the rows of a switch of the fabric follow
abbrev pub rows_of : Told → (ℕ → Part) → Option ℕ → Step
rows_of told part None = Err UnknownSwitch
rows_of told part (Some switch) = Ok (at_part told (part switch))

-- a row that names a port; it counts among those for LIDs that nobody owns if its LID is one
abbrev pub unowned_with : FabricOf → (lid count : ℕ) → ℕ
unowned_with fabric lid count = if is_none (owner_of fabric lid) then count + 1 else count

abbrev pub row_added : FabricOf → Told → (switch lid port : ℕ) → Told
row_added fabric told switch lid port =
    record told {
      rows = told.rows + 1;
      unowned = unowned_with fabric lid told.unowned;
      tables = with_port told.tables switch lid port;
    }

-- the port of a LID: none was told, or this one, or another
abbrev pub port_told : FabricOf → Told → (switch lid port : ℕ) → Option ℕ → Step
port_told fabric told switch lid port None = Ok (row_added fabric told switch lid port)
port_told fabric told switch lid port (Some other) =
    if other == port then Ok (row_added fabric told switch lid port) else Err PortDiffers

-- whether a row says nothing: 255 is no port, and LID 0 is reserved
abbrev pub is_void : (lid port : ℕ) → Bool
is_void lid port = port == 255 || lid == 0

abbrev pub row_told : FabricOf → Told → (lid port switch : ℕ) → Step
row_told fabric told lid port switch =
    if is_void lid port then Ok told else port_told fabric told switch lid port (told.tables switch lid)

-- a table, or a plain text, begins if none is open but that of a list, which ends there; one of a dump, or a plain text,
-- ends if it is open
abbrev pub may_begin : Part → Result ⊤ TablesCause
may_begin part = if is_dump part then Err NoEnd else (if is_plain part then Err OutOfPlace else Ok tt)

abbrev pub begins_told : Told → Step → Step
begins_told told step = and_then (may_begin told.part) (λ _. step)

abbrev pub if_open : Bool → Step → Step
if_open is_open step = if is_open then step else Err OutOfPlace

-- what is told after what a line says
abbrev pub told_with : FabricOf → Told → TableLine → Step
told_with fabric told Nothing = Ok told
told_with fabric told (Row lid port) = and_then (switch_dumped told.part) (row_told fabric told lid port)
told_with fabric told (ListedRow lid port) = and_then (switch_listed told.part) (row_told fabric told lid port)
told_with fabric told (PlainRow lid port) = and_then (switch_plain told.part) (row_told fabric told lid port)
told_with fabric told (Head guid) = begins_told told (rows_of told Dumped (switch_with fabric guid))
told_with fabric told (ListedHead guid) = begins_told told (rows_of told Listed (switch_with fabric guid))
told_with fabric told End = if_open (is_dump told.part) (Ok (at_part told Between))
told_with fabric told PlainHead = begins_told told (Ok (at_part told Plain))
told_with fabric told (PlainSwitch guid) =
    if_open (is_plain told.part) (rows_of told PlainOf (switch_with fabric guid))
told_with fabric told PlainEnd = if_open (is_plain told.part) (Ok (at_part told Between))

-- what is told after a line
unfoldable pub told_after : FabricOf → Told → List ℕ → Step
told_after fabric told line = and_then (said_in line) (told_with fabric told)

-- a line is good after what was told, and leads to more; or it is faulty, first by this cause
abbrev pub AddsTo : FabricOf → Told → List ℕ → Told → Type 0
AddsTo fabric told line after = told_after fabric told line ≡ Ok after

abbrev pub IsFaultyAfter : FabricOf → Told → List ℕ → TablesCause → Type 0
IsFaultyAfter fabric told line cause = told_after fabric told line ≡ Err cause

-- a line that is too long is faulty by that
pub long_line : (fabric : FabricOf) (told : Told) (line : List ℕ) → 4096 < length line
    → IsFaultyAfter fabric told line LineTooLong
unfolding said_in told_after
long_line fabric told line long = ap (λ said. and_then said (told_with fabric told)) (long_err line LineTooLong _ long)

-- The last part ended. A list has no last line, and ends with the text: where it was cut off between two lines, nothing
-- shows that.
abbrev pub may_end : Part → Bool
may_end Between = true
may_end part = is_list part

abbrev pub IsEnded : Told → Type 0
IsEnded told = may_end told.part ≡ true

-- The bytes are the text of these tables of the fabric: each line is good after those before it, the last
-- part ended, and the tables are what the lines say, for each LID but 0, whoever owns it. So many rows named a port for
-- one of these, and so many of them for LIDs that nobody owns.
pub record IsTablesText (fabric : FabricOf) (bytes : List ℕ) (tables : TablesOf) (rows unowned : ℕ)
    : Type 0 where
  pub last : Told
  pub good : LeadsBy (AddsTo fabric) none_told (lines_of bytes) last
  pub ended : IsEnded last
  pub says : tables ≡ last.tables
  pub rows_are : rows ≡ last.rows
  pub unowned_are : unowned ≡ last.unowned

-- the first fault of the bytes, as the text of tables of the fabric, is in this line and of this cause
abbrev pub IsTablesFault : FabricOf → List ℕ → ℕ → TablesCause → Type 0
IsTablesFault fabric = IsFaultOf none_told (AddsTo fabric) (IsFaultyAfter fabric) IsEnded NoEnd
