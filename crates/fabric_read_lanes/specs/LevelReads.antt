-- What a source gave, as the text of levels of the paths of a fabric.
use Rattle.std.specs.Prelude.{◌≡◌, ◌≤◌, ◌*◌, ℕ, List, length}
use Rattle.outside.specs.Told.{Seen, Gave, IsAtEnd}
use Rattle.fabric_model.specs.Fabric.{FabricOf, switch_count}
use Rattle.fabric_lane_tables.specs.PathLevels.{told_levels}
use Rattle.fabric_lane_tables.specs.declared.levels.LevelRows.{LevelRows}
use Rattle.fabric_words.specs.declared.lane_cause.LaneCause.{LaneCause}
use Rattle.fabric_words.specs.declared.lane_cause.LaneCause.TheVariants.{NoEnd, TooMany}
use Rattle.fabric_read_lines.specs.Texts.{IsRefusedBy as IsRefusedFrom}
use Rattle.fabric_read_lines.specs.declared.reader.TextRefusal.{TextRefusal}
use Rattle.fabric_read_lanes.specs.Levels.{AddsTo, IsEnded, IsFaultyAfter, IsLevelsText, none_told}

-- a source was read to its end, and what it gave is the text of these levels
pub record GaveLevels (fabric : FabricOf) (old new : Seen) (found : LevelRows) : Type 0 where
  pub bytes : List ℕ
  pub gave : Gave old new bytes
  pub end : IsAtEnd new
  pub text : IsLevelsText fabric bytes (told_levels found)

-- there is a place for each end port and each LID that has an owner, and the switches are counted
pub record HasRows (fabric : FabricOf) (found : LevelRows) : Type 0 where
  pub ends : found.ends ≡ length fabric.cables
  pub switches : found.switches ≡ switch_count fabric
  pub lids : length fabric.owners ≤ 64 * found.blocks

-- why there are no levels: what the source gave has this fault, it failed, or no memory was found
abbrev pub IsRefusedBy : FabricOf → (old new : Seen) → TextRefusal LaneCause → Type 0
IsRefusedBy fabric old new =
    IsRefusedFrom (AddsTo fabric) (IsFaultyAfter fabric) IsEnded NoEnd TooMany old new none_told
