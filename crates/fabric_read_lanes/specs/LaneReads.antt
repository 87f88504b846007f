-- What a source gave, as the text of lanes of a fabric.
use Rattle.std.specs.Prelude.{◌≡◌, ℕ, List}
use Rattle.outside.specs.Told.{Seen, Gave, IsAtEnd}
use Rattle.fabric_model.specs.Fabric.{FabricOf, switch_count}
use Rattle.fabric_lane_tables.specs.Lanes.{lanes_of}
use Rattle.fabric_lane_tables.specs.declared.lanes.LaneRows.{LaneRows}
use Rattle.fabric_words.specs.declared.lane_cause.LaneCause.{LaneCause}
use Rattle.fabric_words.specs.declared.lane_cause.LaneCause.TheVariants.{NoEnd, TooMany}
use Rattle.fabric_read_lines.specs.Texts.{IsRefusedBy as IsRefusedFrom}
use Rattle.fabric_read_lines.specs.declared.reader.TextRefusal.{TextRefusal}
use Rattle.fabric_read_lanes.specs.Lanes.{AddsTo, IsEnded, IsFaultyAfter, IsLanesText, none_told}

-- a source was read to its end, and what it gave is the text of these lanes
pub record GaveLanes (fabric : FabricOf) (old new : Seen) (found : LaneRows) : Type 0 where
  pub bytes : List ℕ
  pub gave : Gave old new bytes
  pub end : IsAtEnd new
  pub text : IsLanesText fabric bytes (lanes_of found)

-- there is a place for the rows of each switch and its ports
pub record HasRows (fabric : FabricOf) (found : LaneRows) : Type 0 where
  pub switches : found.switches ≡ switch_count fabric
  pub most : found.most ≡ fabric.most

-- why there are no lanes: what the source gave has this fault, it failed, or no memory was found
abbrev pub IsRefusedBy : FabricOf → (old new : Seen) → TextRefusal LaneCause → Type 0
IsRefusedBy fabric old new =
    IsRefusedFrom (AddsTo fabric) (IsFaultyAfter fabric) IsEnded NoEnd TooMany old new none_told
