-- What a reader keeps of the lines so far. Only private functions cite this.
use Rattle.std.specs.Prelude.{◌≡◌, ◌<◌, ◌≤◌, ◌*◌, length}
use Rattle.fabric_model.specs.declared.node.EndPort.{EndPort}
use Rattle.fabric_model.specs.declared.node.EndPort.TheVariants as port
use Rattle.fabric_model.specs.Fabric.{FabricOf, switch_count}
use Rattle.fabric_lane_tables.specs.PathLevels.{told_levels}
use Rattle.fabric_read_lanes.specs.declared.level_reading.Reading.{Reading}
use Rattle.fabric_read_lanes.specs.declared.level_reading.Part.{Part}
use Rattle.fabric_read_lanes.specs.declared.level_reading.Part.TheVariants.{Start, Paths, Of}
use Rattle.fabric_read_lanes.specs.Levels.{Told}

-- what it has of them
abbrev pub told_of : Reading → Told
told_of reading = record { part = reading.part; levels = told_levels reading.rows }

-- an end port of the fabric
abbrev pub IsEndOf : FabricOf → EndPort → Type 0
IsEndOf fabric (port.Host end) = end < length fabric.cables
IsEndOf fabric (port.Switch switch) = switch < switch_count fabric

-- if a part is open, it is that of an end port of the fabric
abbrev pub IsPartOf : FabricOf → Part → Type 0
IsPartOf fabric Start = Unit {0}
IsPartOf fabric Paths = Unit {0}
IsPartOf fabric (Of source) = IsEndOf fabric source

-- there is a place for each end port and each LID that has an owner, and an open part is that of an end port
pub record IsFit (fabric : FabricOf) (reading : Reading) : Type 0 where
  pub ends : reading.rows.ends ≡ length fabric.cables
  pub switches : reading.rows.switches ≡ switch_count fabric
  pub lids : length fabric.owners ≤ 64 * reading.rows.blocks
  pub part : IsPartOf fabric reading.part
