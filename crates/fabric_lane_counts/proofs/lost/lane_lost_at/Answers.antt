use Rattle.std.proofs.Common.{sym, subst}
use Rattle.fabric_tables.specs.Cells.{tables_of}
use Rattle.fabric_lane_counts.specs.LaneCounts.{IsLaneLostAt}
use Rattle.fabric_lane_counts.proofs.LostLemmas.{lost_so}
use Rattle.fabric_lane_routes.specs.declared.hop.LaneOutcome.{LaneOutcome}
use Rattle.fabric_lane_routes.specs.LaneRoutes.{LaneEndsAs}
use Rattle.fabric_lane_routes.specs.Routing.{hop_by}
use Rattle.fabric_lane_tables.specs.Lanes.{lanes_of}
use Rattle.fabric_lane_counts.proofs.lost.lane_lost_at.Goals as goal

pub returns-in-Discards : goal.returns-in-Discards
returns-in-Discards c = λ lost ends.
    subst (λ (o : LaneOutcome). IsLaneLostAt (hop_by c.args.routing.now c.args.route.level c.args.route.lid) c.args.route.start o c.discarded_at.result) (sym c.in-Discards.is)
    (c.discarded_at.ensures (subst (LaneEndsAs (hop_by c.args.routing.now c.args.route.level c.args.route.lid) c.args.route.start) c.in-Discards.is ends))

pub returns-in_default : goal.returns-in_default
returns-in_default c = lost_so c.args.routing.now.fabric.now (tables_of c.args.routing.now.cells.now) (lanes_of c.args.routing.now.lanes.now) c.args.route.level c.args.route.lid c.args.route.start c.args.outcome c.lost_at.result c.in_default.not-Discards c.lost_at.ensures.lost
