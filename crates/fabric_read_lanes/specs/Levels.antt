-- The text of the service levels of the paths of a fabric.
use Rattle.std.specs.Prelude.{◌≡◌, ◌<◌, ℕ, Bool, true, false, List, length, Option, Some, None, Result, Ok, Err}
use Rattle.fabric_model.specs.declared.node.EndPort.{EndPort}
use Rattle.fabric_model.specs.declared.node.EndPort.TheVariants as port
use Rattle.fabric_model.specs.Fabric.{FabricOf, end_with, switch_with}
use Rattle.fabric_lane_tables.specs.PathLevels.{LevelsOf, with_level}
use Rattle.std.proofs.Common.{ap}
use Rattle.common_lines.specs.Chains.{IsFaultOf}
use Rattle.fabric_words.specs.Says.{and_then}
use Rattle.fabric_words.proofs.StepLemmas.{long_err}
use Rattle.fabric_words.specs.declared.head.NodeHead.{NodeHead}
use Rattle.fabric_words.specs.declared.head.NodeHead.TheVariants as head
use Rattle.fabric_read_lines.specs.Texts.{IsTextOf}
use Rattle.fabric_words.specs.declared.lane_cause.LaneCause.{LaneCause}
use Rattle.fabric_words.specs.declared.lane_cause.LaneCause.TheVariants.{LineTooLong, UnknownSwitch, UnknownEnd, OutOfPlace, NoEnd}
use Rattle.fabric_read_lanes.specs.declared.level_line.LevelLine.{LevelLine}
use Rattle.fabric_read_lanes.specs.declared.level_line.LevelLine.TheVariants.{Nothing, Head, Level, Path}
use Rattle.fabric_read_lanes.specs.declared.level_reading.Part.{Part}
use Rattle.fabric_read_lanes.specs.declared.level_reading.Part.TheVariants.{Start, Paths, Of}
use Rattle.fabric_read_lanes.specs.LevelLines.{said_in}

-- what lines say so far: in which part of the text the next one stands, and the levels
pub record Told : Type 0 where
  pub part : Part
  pub levels : LevelsOf

-- what no lines say
abbrev pub no_levels : LevelsOf
no_levels source lid = 0

abbrev pub none_told : Told
none_told = record { part = Start; levels = no_levels }

-- what is told after a line, or why the line is faulty
abbrev pub Step : Type 0
Step = Result Told LaneCause

-- the end port at a place that is known, or this cause
abbrev pub or_unknown : Option ℕ → LaneCause → (ℕ → EndPort) → Result EndPort LaneCause
or_unknown None cause port = Err cause
or_unknown (Some place) cause port = Ok (port place)

-- the end port of a head: port 0 of a switch, or one of an adapter or router
abbrev pub source_of : FabricOf → NodeHead → Result EndPort LaneCause
source_of fabric (head.Switch guid) = or_unknown (switch_with fabric guid) UnknownSwitch port.Switch
source_of fabric (head.Adapter guid) = or_unknown (end_with fabric guid) UnknownEnd port.Host

-- the end port with a GUID, of whatever kind
abbrev pub source_or : Option ℕ → Result EndPort LaneCause → Result EndPort LaneCause
source_or None other = other
source_or (Some end) other = Ok (port.Host end)

abbrev pub any_source : FabricOf → ℕ → Result EndPort LaneCause
any_source fabric guid =
    source_or (end_with fabric guid) (or_unknown (switch_with fabric guid) UnknownEnd port.Switch)

-- a level of an end port and a LID, with or without an owner
abbrev pub level_told : Told → (lid level : ℕ) → EndPort → Step
level_told told lid level source = Ok (record told { levels = with_level told.levels source lid level })

-- .. of the end port of a part
abbrev pub level_at : Told → (lid level : ℕ) → Part → Step
level_at told lid level (Of source) = level_told told lid level source
level_at told lid level part = Err OutOfPlace

-- a path names its end port itself, and ends a part
abbrev pub at_part : Told → Part → Told
at_part told part = record told { part = part }

abbrev pub path_told : Told → (lid level : ℕ) → Result EndPort LaneCause → Step
path_told told lid level source = and_then source (level_told (at_part told Paths) lid level)

-- what is told after what a line says
abbrev pub told_with : FabricOf → Told → LevelLine → Step
told_with fabric told Nothing = Ok told
told_with fabric told (Head node) = and_then (source_of fabric node) (λ source. Ok (at_part told (Of source)))
told_with fabric told (Level lid level) = level_at told lid level told.part
told_with fabric told (Path guid lid level) = path_told told lid level (any_source fabric guid)

-- what is told after a line
unfoldable pub told_after : FabricOf → Told → List ℕ → Step
told_after fabric told line = and_then (said_in line) (told_with fabric told)

-- a line is good after what was told, and leads to more; or it is faulty, by this cause
abbrev pub AddsTo : FabricOf → Told → List ℕ → Told → Type 0
AddsTo fabric told line after = told_after fabric told line ≡ Ok after

abbrev pub IsFaultyAfter : FabricOf → Told → List ℕ → LaneCause → Type 0
IsFaultyAfter fabric told line cause = told_after fabric told line ≡ Err cause

-- a line that is too long is faulty by that
pub long_line : (fabric : FabricOf) (told : Told) (line : List ℕ) → 4096 < length line
    → IsFaultyAfter fabric told line LineTooLong
unfolding said_in told_after
long_line fabric told line long = ap (λ said. and_then said (told_with fabric told)) (long_err line LineTooLong _ long)

-- a part or a path was told: a text without any is cut off
abbrev pub is_begun : Part → Bool
is_begun Start = false
is_begun part = true

abbrev pub IsEnded : Told → Type 0
IsEnded told = is_begun told.part ≡ true

-- The bytes are the text of these levels of the paths of the fabric: each line is good after those before
-- it, there is a part or a path, and the levels are those that the lines say, of each path all that are
-- told.
pub record IsLevelsText (fabric : FabricOf) (bytes : List ℕ) (levels : LevelsOf) : Type 0 where
  pub last : Told
  pub text : IsTextOf (AddsTo fabric) IsEnded none_told bytes last
  pub says : levels ≡ last.levels

-- the first fault of the bytes, as the text of levels of the fabric, is in this line and of this cause
abbrev pub IsLevelsFault : FabricOf → List ℕ → ℕ → LaneCause → Type 0
IsLevelsFault fabric = IsFaultOf none_told (AddsTo fabric) (IsFaultyAfter fabric) IsEnded NoEnd
