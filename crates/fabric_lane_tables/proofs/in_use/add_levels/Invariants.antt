use Rattle.fabric_lane_tables.specs.InUse.{AddsLevels, HasSameRoom}
use Rattle.fabric_lane_tables.specs.PathLevels.{told_levels}
use Rattle.fabric_lane_tables.proofs.InUseLemmas.{IsLowLevel}
use Rattle.fabric_lane_tables.proofs.in_use.add_levels.Given as goal

-- the levels so far
abbrev pub invariant-levels : goal.invariant-levels
invariant-levels l = record {
  room : HasSameRoom l.fn.rows l.rows;
  added : AddsLevels (told_levels l.fn.rows) (told_levels l.rows) (IsLowLevel l.source l.lid l.levels l.level);
}
