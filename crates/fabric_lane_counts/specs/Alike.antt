-- Counts if all end ports send with the same levels, level by level. Only private functions cite this.
use Rattle.std.specs.Prelude.{◌<◌, ◌+◌, ℕ, Option, Some, None}
use Rattle.fabric_tables.specs.Cells.{TablesOf}
use Rattle.fabric_counts.specs.declared.counts.Loss.{Loss}
use Rattle.fabric_counts.specs.declared.counts.Losses.{Losses}
use Rattle.fabric_counts.specs.declared.counts.LostRoute.{LostRoute}
use Rattle.fabric_lane_counts.specs.declared.counts.LaneLoss.{LaneLoss}
use Rattle.fabric_lane_counts.specs.declared.counts.LaneLosses.{LaneLosses}
use Rattle.fabric_lane_counts.specs.declared.counts.LostLaneRoute.{LostLaneRoute}
use Rattle.fabric_lane_counts.specs.LaneCounts.{IsLaneRouteOf, LaneRoute}
use Rattle.fabric_model.specs.Fabric.{FabricOf}
use Rattle.fabric_model.specs.declared.traffic.Traffic.{Traffic}
use Rattle.fabric_lane_tables.specs.declared.levels.Levels.TheVariants.{Same}
use Rattle.fabric_lane_tables.specs.Levels.{levels_of}
use Rattle.fabric_lane_tables.specs.PathLevels.{LevelsOf}

-- all send with the same levels
abbrev pub alike : ℕ → LevelsOf
alike told = levels_of (Same told)

-- a route with one of them that is less than another
abbrev pub IsBelow : FabricOf → TablesOf → Traffic → ℕ → ℕ → LaneRoute → Type 0
IsBelow fabric tables traffic told level route =
    IsLaneRouteOf fabric tables traffic (alike told) route × (route.level < level)

-- the least lost route of lesser levels; if there is none, that of one lane, with a level
abbrev pub least_with : ℕ → Option LostLaneRoute → Option LostRoute → Option LostLaneRoute
least_with level (Some told) least = Some told
least_with level None None = None
least_with level None (Some found) =
    Some (record { lid = found.lid; source = found.source; level = level; at = found.at })

-- the losses of lesser levels with those of one lane, with a level: nothing is discarded there
abbrev pub loss_with : ℕ → LaneLoss → Loss → LaneLoss
loss_with level old loss =
    record { count = old.count + loss.count; least = least_with level old.least loss.least }

abbrev pub losses_with : ℕ → LaneLosses → Losses → LaneLosses
losses_with level old lost = record {
  missing = loss_with level old.missing lost.missing;
  dead = loss_with level old.dead lost.dead;
  wrong = loss_with level old.wrong lost.wrong;
  discard = old.discard;
  looping = loss_with level old.looping lost.looping;
}
