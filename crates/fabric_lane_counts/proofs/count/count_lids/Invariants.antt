use Rattle.fabric_tables.specs.Cells.{tables_of}
use Rattle.fabric_lane_counts.specs.Steps.{AreCountsUntil, AreRooms}
use Rattle.fabric_model.specs.Fabric.{switch_count}
use Rattle.fabric_lane_tables.specs.Lanes.{lanes_of}
use Rattle.fabric_lane_tables.specs.Levels.{levels_of}
use Rattle.fabric_lane_counts.proofs.count.count_lids.Given as goal

-- the counts with the LIDs so far
abbrev pub invariant-lids : goal.invariant-lids
invariant-lids l = record {
  rooms : AreRooms (switch_count l.routing.fabric.now) l.rooms;
  counts : AreCountsUntil l.routing.fabric.now (tables_of l.routing.cells.now) (lanes_of l.routing.lanes.now) l.routing.traffic (levels_of l.routing.levels.now) l.lid 0 0 l.counts;
}
