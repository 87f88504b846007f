use Rattle.std.proofs.Common.{◌<◌, ℕ}
use Rattle.fabric_tables.specs.Cells.{tables_of}
use Rattle.fabric_lane_tables.specs.Lanes.{lanes_of}
use Rattle.fabric_lane_tables.specs.Levels.{levels_of}
use Rattle.fabric_lane_routes.specs.LaneRoutes.{LaneTakes}
use Rattle.fabric_lane_witness.specs.Witness.{lane_channel_of}
use Rattle.fabric_lane_witness.proofs.witness.least_level.Given as goal

-- none of those so far
abbrev pub invariant-levels : goal.invariant-levels
invariant-levels l = (other : ℕ) → other < l.level → LaneTakes l.routing.fabric.now (tables_of l.routing.cells.now) (lanes_of l.routing.lanes.now) l.routing.traffic (levels_of l.routing.levels.now) l.sought.lid l.fn.source other (lane_channel_of l.sought.channel) (lane_channel_of l.sought.next) → ⊥
