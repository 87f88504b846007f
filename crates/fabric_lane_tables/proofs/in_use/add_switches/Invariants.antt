use Rattle.std.proofs.Common.{◌*◌}
use Rattle.fabric_model.specs.declared.node.EndPort.TheVariants.{Switch}
use Rattle.fabric_lane_tables.specs.InUse.{AddsLevels, HasSameRoom, IsUsedBelow}
use Rattle.fabric_lane_tables.specs.Levels.{levels_of}
use Rattle.fabric_lane_tables.specs.PathLevels.{told_levels}
use Rattle.fabric_lane_tables.proofs.in_use.add_switches.Given as goal

-- the levels of those so far
abbrev pub invariant-switches : goal.invariant-switches
invariant-switches l = record {
  room : HasSameRoom l.fn.rows l.rows;
  added : AddsLevels (told_levels l.fn.rows) (told_levels l.rows) (IsUsedBelow l.fabric (levels_of l.given) Switch l.switch (64 * l.fn.rows.blocks));
}
