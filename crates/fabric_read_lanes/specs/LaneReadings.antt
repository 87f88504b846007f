-- What a reader keeps of the lines so far. Only private functions cite this.
use Rattle.std.specs.Prelude.{◌≡◌, ◌<◌, ℕ, Option, Some, None, IfSome}
use Rattle.fabric_model.specs.Fabric.{FabricOf, switch_count}
use Rattle.fabric_lane_tables.specs.Lanes.{told_row}
use Rattle.fabric_read_lanes.specs.declared.lane_reading.Reading.{Reading}
use Rattle.fabric_read_lanes.specs.declared.lane_reading.Part.{Part}
use Rattle.fabric_read_lanes.specs.declared.lane_reading.Part.TheVariants.{Switch, SwitchRows, Asked}
use Rattle.fabric_read_lanes.specs.Lanes.{Told}

-- what it has of them
abbrev pub told_of : Reading → Told
told_of reading = record { part = reading.part; rows = told_row reading.rows }

-- the switch of an open part
abbrev pub switch_in : Part → Option ℕ
switch_in (Switch switch) = Some switch
switch_in (SwitchRows switch) = Some switch
switch_in (Asked switch) = Some switch
switch_in part = None

-- there is a place for the rows of each switch and its ports, and an open part is that of a switch that
-- there is
pub record IsFit (fabric : FabricOf) (reading : Reading) : Type 0 where
  pub switches : reading.rows.switches ≡ switch_count fabric
  pub most : reading.rows.most ≡ fabric.most
  pub within : IfSome (switch_in reading.part) (λ switch. switch < switch_count fabric)

-- .. as many as there were
pub record KeepsSize (old new : Reading) : Type 0 where
  pub switches : new.rows.switches ≡ old.rows.switches
  pub most : new.rows.most ≡ old.rows.most
  pub part : new.part ≡ old.part
