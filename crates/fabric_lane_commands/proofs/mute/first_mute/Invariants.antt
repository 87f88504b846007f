use Rattle.std.proofs.Common.{◌<◌}
use Rattle.fabric_tables.specs.Cells.{tables_of}
use Rattle.fabric_counts.specs.Counts.{Route}
use Rattle.fabric_lane_tables.specs.Levels.{levels_of}
use Rattle.fabric_lane_counts.specs.LaneCounts.{IsSilent}
use Rattle.fabric_lane_commands.proofs.mute.first_mute.Given as goal

-- no pair so far
abbrev pub invariant-lids : goal.invariant-lids
invariant-lids l = (other : Route) → other.lid < l.lid → IsSilent l.fabric (tables_of l.cells) l.traffic (levels_of l.levels) other → ⊥
