-- The text of the lanes of a fabric.
use Rattle.std.specs.Prelude.{◌≡◌, ◌<◌, ◌==◌, ◌||◌, ℕ, Bool, true, false, List, length, Option, Some, None, Result}
use Rattle.std.specs.Prelude.{Ok, Err}
use Rattle.std.specs.Prelude.{if◌then◌else◌, nat_lt}
use Rattle.fabric_model.specs.Fabric.{FabricOf, owner_of, ports_of, switch_with}
use Rattle.fabric_model.specs.declared.node.EndPort.{EndPort}
use Rattle.fabric_model.specs.declared.node.EndPort.TheVariants as port
use Rattle.fabric_lane_tables.specs.Lanes.{LanesOf, RowsOf, lanes_by, with_row}
use Rattle.std.proofs.Common.{ap}
use Rattle.common_lines.specs.Chains.{IsFaultOf}
use Rattle.fabric_words.specs.Says.{and_then}
use Rattle.fabric_words.proofs.StepLemmas.{long_err}
use Rattle.fabric_words.specs.declared.head.NodeHead.{NodeHead}
use Rattle.fabric_words.specs.declared.head.NodeHead.TheVariants as head
use Rattle.fabric_read_lines.specs.Texts.{IsTextOf}
use Rattle.fabric_words.specs.declared.lane_cause.LaneCause.{LaneCause}
use Rattle.fabric_words.specs.declared.lane_cause.LaneCause.TheVariants.{UnknownSwitch, NoSuchPort, OutOfPlace}
use Rattle.fabric_words.specs.declared.lane_cause.LaneCause.TheVariants.{LineTooLong, NoEnd}
use Rattle.fabric_words.specs.declared.lane_cause.LaneCause.TheVariants.{LanesDiffer}
use Rattle.fabric_read_lanes.specs.declared.lane_line.LaneLine.{LaneLine}
use Rattle.fabric_read_lanes.specs.declared.lane_line.LaneLine.TheVariants.{Nothing, Dashes, Head, Asked as AskedLine, Row}
use Rattle.fabric_read_lanes.specs.declared.lane_reading.Part.{Part}
use Rattle.fabric_read_lanes.specs.declared.lane_reading.Part.TheVariants.{Start, Between, Switch, SwitchRows}
use Rattle.fabric_read_lanes.specs.declared.lane_reading.Part.TheVariants.{Adapter, AdapterRows, Asked}
use Rattle.fabric_read_lanes.specs.LaneLines.{said_in}

-- what lines say so far: in which part of the text the next one stands, and the rows
pub record Told : Type 0 where
  pub part : Part
  pub rows : RowsOf

-- what no lines say
abbrev pub no_rows : RowsOf
no_rows switch entry port = None

abbrev pub none_told : Told
none_told = record { part = Start; rows = no_rows }

-- what is told after a line, or why the line is faulty
abbrev pub Step : Type 0
Step = Result Told LaneCause

abbrev pub at_part : Told → Part → Told
at_part told part = record told { part = part }

-- dashes begin the rows of a part, and end them
abbrev pub after_dashes : Part → Result Part LaneCause
after_dashes (Switch switch) = Ok (SwitchRows switch)
after_dashes Adapter = Ok AdapterRows
after_dashes (SwitchRows switch) = Ok Between
after_dashes AdapterRows = Ok Between
after_dashes Start = Err OutOfPlace
after_dashes Between = Err OutOfPlace
after_dashes (Asked switch) = Err OutOfPlace

abbrev pub dashes_told : Told → Step
dashes_told told = and_then (after_dashes told.part) (λ part. Ok (at_part told part))

-- whether a part is open: another one may not begin
abbrev pub is_open : Part → Bool
is_open Start = false
is_open Between = false
is_open (Asked switch) = false
is_open part = true

-- the part of a switch of the fabric, or of any adapter or router
abbrev pub opened_at : Option ℕ → Result Part LaneCause
opened_at None = Err UnknownSwitch
opened_at (Some switch) = Ok (Switch switch)

abbrev pub opened : FabricOf → NodeHead → Result Part LaneCause
opened fabric (head.Switch guid) = opened_at (switch_with fabric guid)
opened fabric (head.Adapter guid) = Ok Adapter

abbrev pub begun : Told → Result Part LaneCause → Step
begun told part = if is_open told.part then Err NoEnd else and_then part (λ part. Ok (at_part told part))

abbrev pub head_told : FabricOf → Told → NodeHead → Step
head_told fabric told node = begun told (opened fabric node)

-- the rows that the switch with a LID was asked for
abbrev pub asked_of : Option EndPort → Result Part LaneCause
asked_of None = Err UnknownSwitch
asked_of (Some (port.Host end)) = Err UnknownSwitch
asked_of (Some (port.Switch switch)) = Ok (Asked switch)

abbrev pub asked_told : FabricOf → Told → (lid : ℕ) → Step
asked_told fabric told lid = begun told (asked_of (owner_of fabric lid))

-- the row of a switch and its ports: none was told, or this one, or another
abbrev pub row_put : Told → (switch entry port row : ℕ) → Option ℕ → Step
row_put told switch entry port row None = Ok (record told { rows = with_row told.rows switch entry port row })
row_put told switch entry port row (Some other) = if other == row
    then Ok (record told { rows = with_row told.rows switch entry port row })
    else Err LanesDiffer

-- of ports that the switch has
abbrev pub row_of : FabricOf → Told → (entry port row switch : ℕ) → Step
row_of fabric told entry port row switch =
    if nat_lt (ports_of fabric switch) entry || nat_lt (ports_of fabric switch) port then Err NoSuchPort
    else row_put told switch entry port row (told.rows switch entry port)

-- a row stands among those of a part; that of an adapter says nothing
abbrev pub row_at : FabricOf → Told → (entry port row : ℕ) → Part → Step
row_at fabric told entry port row (SwitchRows switch) = row_of fabric told entry port row switch
row_at fabric told entry port row (Asked switch) = row_of fabric told entry port row switch
row_at fabric told entry port row AdapterRows = Ok told
row_at fabric told entry port row part = Err OutOfPlace

abbrev pub row_told : FabricOf → Told → (entry port row : ℕ) → Step
row_told fabric told entry port row = row_at fabric told entry port row told.part

-- what is told after what a line says
abbrev pub told_with : FabricOf → Told → LaneLine → Step
told_with fabric told Nothing = Ok told
told_with fabric told Dashes = dashes_told told
told_with fabric told (Head node) = head_told fabric told node
told_with fabric told (AskedLine lid) = asked_told fabric told lid
told_with fabric told (Row entry port row) = row_told fabric told entry port row

-- what is told after a line
unfoldable pub told_after : FabricOf → Told → List ℕ → Step
told_after fabric told line = and_then (said_in line) (told_with fabric told)

-- a line is good after what was told, and leads to more; or it is faulty, by this cause
abbrev pub AddsTo : FabricOf → Told → List ℕ → Told → Type 0
AddsTo fabric told line after = told_after fabric told line ≡ Ok after

abbrev pub IsFaultyAfter : FabricOf → Told → List ℕ → LaneCause → Type 0
IsFaultyAfter fabric told line cause = told_after fabric told line ≡ Err cause

-- a line that is too long is faulty by that
pub long_line : (fabric : FabricOf) (told : Told) (line : List ℕ) → 4096 < length line
    → IsFaultyAfter fabric told line LineTooLong
unfolding said_in told_after
long_line fabric told line long = ap (λ said. and_then said (told_with fabric told)) (long_err line LineTooLong _ long)

-- whether a text may end in a part: the last one ended, or has no line that ends it
abbrev pub may_end : Part → Bool
may_end Between = true
may_end (Asked switch) = true
may_end part = false

abbrev pub IsEnded : Told → Type 0
IsEnded told = may_end told.part ≡ true

-- The bytes are the text of these lanes of the fabric: each line is good after those before it, the last
-- part ended, and the lanes are those of the rows that the lines say, and 15 if they say none.
pub record IsLanesText (fabric : FabricOf) (bytes : List ℕ) (lanes : LanesOf) : Type 0 where
  pub last : Told
  pub text : IsTextOf (AddsTo fabric) IsEnded none_told bytes last
  pub says : lanes ≡ lanes_by last.rows

-- the first fault of the bytes, as the text of lanes of the fabric, is in this line and of this cause
abbrev pub IsLanesFault : FabricOf → List ℕ → ℕ → LaneCause → Type 0
IsLanesFault fabric = IsFaultOf none_told (AddsTo fabric) (IsFaultyAfter fabric) IsEnded NoEnd
