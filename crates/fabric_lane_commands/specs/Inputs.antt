-- What a call of `lanes` reads.

use Rattle.std.specs.Prelude.{◌≡◌, ℕ, List}
use Rattle.outside.specs.Told.{Seen}
use Rattle.fabric_model.specs.Fabric.{FabricOf}
use Rattle.fabric_read_tables.specs.declared.reader.Tables.{Tables}
use Rattle.fabric_read_tables.specs.Reads.{GaveTables, HasCells}
use Rattle.fabric_lane_tables.specs.declared.lanes.LaneRows.{LaneRows}
use Rattle.fabric_lane_tables.specs.InUse.{levels_in_use}
use Rattle.fabric_lane_tables.specs.Levels.{levels_of}
use Rattle.fabric_lane_tables.specs.PathLevels.{LevelsOf}
use Rattle.fabric_words.specs.declared.lane_cause.LaneCause.{LaneCause}
use Rattle.fabric_read_lines.specs.declared.reader.TextRefusal.{TextRefusal}
use Rattle.fabric_read_lines.specs.declared.reader.TextRefusal.TheVariants as refusal
use Rattle.fabric_read_lanes.specs.LaneReads.{GaveLanes, HasRows, IsRefusedBy}
use Rattle.fabric_print_lanes.specs.declared.answer.Asked.{Asked}
use Rattle.fabric_call.specs.declared.status.Status.{Status}
use Rattle.fabric_call.specs.declared.status.Status.TheVariants.{LanesRefused, ReadFault, OutOfMemory}
use Rattle.fabric_call.specs.Answer.{GaveFabric, Sources, sources}
use Rattle.fabric_call.specs.Answer.{IsStop as IsFabricStop}
use Rattle.fabric_lane_commands.specs.declared.input.Input.{Input}
use Rattle.fabric_lane_commands.specs.Asked.{AreLevelsFor, AreLevelsRefused}

-- the sources of a call at one moment: those of the fabric, the topology and its tables, and two more
pub record LaneSources : Type 0 where
  pub fabric : Sources
  pub lanes : Seen
  pub levels : Seen

abbrev pub lane_sources : (topology tables lanes levels : Seen) → LaneSources
lane_sources topology tables lanes levels =
    record { fabric = sources topology tables; lanes = lanes; levels = levels }

-- what they tell: the text of the topology, its fabric, the tables and the lanes of it, the levels that are given and those
-- in use
pub record Told : Type 0 where
  pub text : List ℕ
  pub fabric : FabricOf
  pub found : Tables
  pub lanes : LaneRows
  pub given : LevelsOf
  pub levels : LevelsOf

abbrev pub told_in : Input → Told
told_in input =
    record {
      text = input.topology.text.items;
      fabric = input.topology.fabric;
      found = input.tables;
      lanes = input.lanes;
      given = levels_of input.levels.given;
      levels = levels_in_use input.levels;
    }

-- the topology and the tables were read to their ends, and are those of this fabric
pub record AreTablesRead (old new : Sources) (text : List ℕ) (fabric : FabricOf) (found : Tables) : Type 0 where
  pub gave : GaveFabric old.topology new.topology text fabric
  pub tables : GaveTables fabric old.tables new.tables found

-- all sources were read to their ends, that of levels if they were asked for, and tell this
pub record AreRead (asked : Asked) (old new : LaneSources) (told : Told) : Type 0 where
  pub tables : AreTablesRead old.fabric new.fabric told.text told.fabric told.found
  pub lanes : GaveLanes told.fabric old.lanes new.lanes told.lanes
  pub levels : AreLevelsFor told.fabric asked old.levels new.levels told.given told.levels

-- there is a cell for each switch and each LID that has an owner, and a row of lanes for each switch
pub record HasPlaces (input : Input) : Type 0 where
  pub cells : HasCells input.topology.fabric input.tables
  pub rows : HasRows input.topology.fabric input.lanes

-- the status of lanes that are refused
abbrev pub lanes_refused : TextRefusal LaneCause → Status
lanes_refused (refusal.Fault line cause) = LanesRefused line cause
lanes_refused refusal.ReadFault = ReadFault
lanes_refused refusal.OutOfMemory = OutOfMemory

-- the source of lanes was refused
pub record AreLanesRefused (fabric : FabricOf) (old new : Seen) (status : Status) : Type 0 where
  pub refusal : TextRefusal LaneCause
  pub refused : IsRefusedBy fabric old new refusal
  pub status_is : status ≡ lanes_refused refusal

-- the fabric and its tables were read, and the lanes are refused
pub record AreNoLanes (old new : LaneSources) (status : Status) : Type 0 where
  pub text : List ℕ
  pub fabric : FabricOf
  pub found : Tables
  pub tables : AreTablesRead old.fabric new.fabric text fabric found
  pub refused : AreLanesRefused fabric old.lanes new.lanes status

-- the lanes were read too, and the levels are refused
pub record AreNoLevels (asked : Asked) (old new : LaneSources) (status : Status) : Type 0 where
  pub text : List ℕ
  pub fabric : FabricOf
  pub found : Tables
  pub tables : AreTablesRead old.fabric new.fabric text fabric found
  pub rows : LaneRows
  pub lanes : GaveLanes fabric old.lanes new.lanes rows
  pub refused : AreLevelsRefused fabric asked.levels old.levels new.levels status

-- Why nothing is judged. There are no tables of a fabric, and the other sources were not looked at; there are no lanes,
-- and the levels were not looked at; there are no levels; or memory is wanting.
pub data IsStop (asked : Asked) (old new : LaneSources) (status : Status) : Type 0 where
  no_tables :
      IsFabricStop old.fabric new.fabric status → new.lanes ≡ old.lanes → new.levels ≡ old.levels
      → IsStop asked old new status
  no_lanes : AreNoLanes old new status → new.levels ≡ old.levels → IsStop asked old new status
  no_levels : AreNoLevels asked old new status → IsStop asked old new status
  wanting : status ≡ OutOfMemory → IsStop asked old new status
