use Rattle.std.proofs.Common.{◌<◌}
use Rattle.std.specs.List.{count_by}
use Rattle.fabric_tables.specs.Cells.{tables_of}
use Rattle.fabric_model.specs.Fabric.{switch_count}
use Rattle.fabric_lane_tables.specs.Lanes.{lanes_of}
use Rattle.fabric_lane_routes.specs.LaneRoutes.{lane_hop}
use Rattle.fabric_lane_witness.specs.Witness.{lane_channel_of}
use Rattle.fabric_lane_witness.proofs.WalkLemmas.{IsFollowed, is_new}
use Rattle.fabric_lane_witness.proofs.walk.goes_by.Given as goal

-- the route has come to a place
abbrev pub invariant-hops : goal.invariant-hops
invariant-hops l =
    record {
      low : l.at.switch < switch_count l.routing.fabric.now;
      followed : IsFollowed (lane_hop l.routing.fabric.now (tables_of l.routing.cells.now) (lanes_of l.routing.lanes.now) l.level l.lid) (lane_channel_of l.channel) l.fn.start l.at l.marks;
    }

abbrev pub decreases-hops : goal.decreases-hops
decreases-hops l = count_by is_new l.marks
