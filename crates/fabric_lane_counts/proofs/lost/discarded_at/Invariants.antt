use Rattle.std.proofs.Common.{◌<◌}
use Rattle.fabric_lane_routes.specs.LaneRoutes.{LaneWalksBy}
use Rattle.fabric_lane_routes.specs.Routing.{hop_by}
use Rattle.fabric_model.specs.Fabric.{switch_count}
use Rattle.fabric_lane_counts.proofs.lost.discarded_at.Given as goal

-- by so many hops it comes to this port
abbrev pub invariant-hops : goal.invariant-hops
invariant-hops l = record {
  low : l.at.switch < switch_count l.routing.fabric.now;
  comes : LaneWalksBy (hop_by l.routing l.fn.route.level l.fn.route.lid) l._hops l.fn.route.start l.at;
}
