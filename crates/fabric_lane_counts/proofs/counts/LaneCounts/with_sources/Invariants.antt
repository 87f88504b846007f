use Rattle.fabric_tables.specs.Cells.{tables_of}
use Rattle.fabric_lane_counts.specs.Ends.{AreReady}
use Rattle.fabric_lane_counts.specs.Steps.{AreCountsUntil}
use Rattle.fabric_lane_tables.specs.Lanes.{lanes_of}
use Rattle.fabric_lane_tables.specs.Levels.{levels_of}
use Rattle.fabric_lane_counts.proofs.counts.LaneCounts.with_sources.Given as goal

-- the counts with the end ports so far
abbrev pub invariant-places : goal.invariant-places
invariant-places l = record {
  ready : AreReady l.routing.fabric.now (tables_of l.routing.cells.now) (lanes_of l.routing.lanes.now) l.lid l.rooms;
  counts : AreCountsUntil l.routing.fabric.now (tables_of l.routing.cells.now) (lanes_of l.routing.lanes.now) l.routing.traffic (levels_of l.routing.levels.now) l.lid l.place 0 l.counts;
}
