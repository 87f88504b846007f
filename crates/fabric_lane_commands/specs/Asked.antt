-- With which service levels end ports send, as a call asks.

use Rattle.std.specs.Prelude.{◌≡◌, ◌≢◌, ◌<◌, ◌^◌, ℕ, List, IfSome, true, false, codes}
use Rattle.outside.specs.Told.{Seen}
use Rattle.common_lines.specs.Words.{is_number_in, number_value}
use Rattle.fabric_model.specs.Fabric.{FabricOf}
use Rattle.fabric_lane_tables.specs.declared.levels.LevelRows.{LevelRows}
use Rattle.fabric_lane_tables.specs.InUse.{AreLevelsGiven, AreLevelsInUse}
use Rattle.fabric_lane_tables.specs.PathLevels.{LevelsOf, told_levels}
use Rattle.fabric_words.specs.declared.lane_cause.LaneCause.{LaneCause}
use Rattle.fabric_read_lines.specs.declared.reader.TextRefusal.{TextRefusal}
use Rattle.fabric_read_lines.specs.declared.reader.TextRefusal.TheVariants as refusal
use Rattle.fabric_read_lanes.specs.LevelReads.{GaveLevels, IsRefusedBy}
use Rattle.fabric_print_lanes.specs.declared.answer.Asked.{Asked}
use Rattle.fabric_print_lanes.specs.declared.answer.LevelsAsked.{LevelsAsked}
use Rattle.fabric_print_lanes.specs.declared.answer.LevelsAsked.TheVariants.{File, Same, Any}
use Rattle.fabric_lane_verdict.specs.LaneVerdict.{any_level}
use Rattle.fabric_call.specs.declared.status.Status.{Status}
use Rattle.fabric_call.specs.declared.status.Status.TheVariants.{LevelsRefused, ReadFault, OutOfMemory}

-- what a word asks for: all sixteen levels, one of them, or those of the file that it names
abbrev pub IsAskedBy : List ℕ → LevelsAsked → Type 0
IsAskedBy word Any = word ≡ codes "any"
IsAskedBy word (Same level) = (is_number_in 0 15 word ≡ true) × (level ≡ number_value word)
IsAskedBy word File = (word ≢ codes "any") × (is_number_in 0 15 word ≡ false)

-- a level is one of 0 to 15
abbrev pub IsOneOfSixteen : LevelsAsked → Type 0
IsOneOfSixteen (Same level) = level < 16
IsOneOfSixteen File = Unit {0}
IsOneOfSixteen Any = Unit {0}

-- one level, for each end port and LID
abbrev pub one_level : ℕ → LevelsOf
one_level level source lid = 2 ^ level

-- the levels of a source that was read to its end, and what it gave is their text
pub record AreGiven (fabric : FabricOf) (old new : Seen) (levels : LevelsOf) : Type 0 where
  pub found : LevelRows
  pub gave : GaveLevels fabric old new found
  pub are : levels ≡ told_levels found

-- those that were asked for: if not of a file, the source is left alone
abbrev pub GaveLevelsFor : FabricOf → LevelsAsked → (old new : Seen) → LevelsOf → Type 0
GaveLevelsFor fabric File old new levels = AreGiven fabric old new levels
GaveLevelsFor fabric (Same level) old new levels = (new ≡ old) × (levels ≡ one_level level)
GaveLevelsFor fabric Any old new levels = (new ≡ old) × (levels ≡ any_level)

-- .. and by them those that are given: a pair that was told none has that of silent pairs, if there is one
pub record AreGivenFor (fabric : FabricOf) (asked : Asked) (old new : Seen) (given : LevelsOf) : Type 0 where
  pub told : LevelsOf
  pub gave : GaveLevelsFor fabric asked.levels old new told
  pub gives : AreLevelsGiven asked.silent told given

-- .. and by these those in use, with those of replies if they count
pub record AreLevelsFor (fabric : FabricOf) (asked : Asked) (old new : Seen) (given used : LevelsOf) : Type 0 where
  pub is_given : AreGivenFor fabric asked old new given
  pub uses : AreLevelsInUse fabric asked.replies given used

-- the levels of a call are of 0 to 15
pub record HasLowLevels (asked : Asked) : Type 0 where
  pub levels : IsOneOfSixteen asked.levels
  pub silent : IfSome asked.silent (λ level. level < 16)

-- the status of levels that are refused
abbrev pub levels_refused : TextRefusal LaneCause → Status
levels_refused (refusal.Fault line cause) = LevelsRefused line cause
levels_refused refusal.ReadFault = ReadFault
levels_refused refusal.OutOfMemory = OutOfMemory

-- the source of levels was refused
pub record AreLevelsRefused (fabric : FabricOf) (asked : LevelsAsked) (old new : Seen) (status : Status) : Type 0 where
  pub file : asked ≡ File
  pub refusal : TextRefusal LaneCause
  pub refused : IsRefusedBy fabric old new refusal
  pub status_is : status ≡ levels_refused refusal
