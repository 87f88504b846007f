use Rattle.std.proofs.Common.{◌≡◌, ◌+◌, ◌≤◌}
use Rattle.fabric_tables.specs.Cells.{tables_of}
use Rattle.fabric_lane_counts.specs.LaneCounts.{AreCountsOf, lane_sum_of}
use Rattle.fabric_lane_counts.specs.Steps.{IsBeforeLevel}
use Rattle.fabric_routes.specs.Routes.{Sends}
use Rattle.fabric_lane_tables.specs.Lanes.{lanes_of}
use Rattle.fabric_lane_tables.specs.Levels.{levels_of}
use Rattle.fabric_lane_counts.proofs.counts.LaneCounts.add_each.Given as goal

-- the counts with the levels so far
abbrev pub invariant-levels : goal.invariant-levels
invariant-levels l = record {
  all : l.self.routes ≡ l.self.arrived + lane_sum_of l.self.lost;
  unowned : l.self.unowned ≤ l.self.arrived;
  few : l.self.routes ≤ l.fn.self.routes + l.level;
  silent : l.self.silent ≡ l.fn.self.silent;
  counts : levels_of l.routing.levels.now l.sender.source l.sender.lid ≡ l.told → Sends l.routing.fabric.now (tables_of l.routing.cells.now) l.routing.traffic l.sender.lid l.sender.source
      → AreCountsOf l.routing.fabric.now (tables_of l.routing.cells.now) (lanes_of l.routing.lanes.now) (IsBeforeLevel l.routing l.sender.lid l.sender.source 0) l.fn.self
      → AreCountsOf l.routing.fabric.now (tables_of l.routing.cells.now) (lanes_of l.routing.lanes.now) (IsBeforeLevel l.routing l.sender.lid l.sender.source l.level) l.self;
}
