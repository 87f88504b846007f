use Rattle.fabric_lane_tables.specs.InUse.{AddsLevels, HasSameRoom, IsUsedTo}
use Rattle.fabric_lane_tables.specs.Levels.{levels_of}
use Rattle.fabric_lane_tables.specs.PathLevels.{told_levels}
use Rattle.fabric_lane_tables.proofs.in_use.add_source.Given as goal

-- the levels to the LIDs so far
abbrev pub invariant-lids : goal.invariant-lids
invariant-lids l = record {
  room : HasSameRoom l.fn.rows l.rows;
  added : AddsLevels (told_levels l.fn.rows) (told_levels l.rows) (IsUsedTo l.fabric (levels_of l.given) l.source l.lid);
}
