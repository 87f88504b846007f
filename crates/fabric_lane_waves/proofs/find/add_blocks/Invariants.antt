use Rattle.std.proofs.Common.{◌*◌}
use Rattle.fabric_lane_waves.specs.LaneBlocks.{AreFoundBelow, AreRooms}
use Rattle.fabric_lane_waves.specs.LaneSteps.{IsGraphOn}
use Rattle.fabric_lane_waves.proofs.find.add_blocks.Given as goal

abbrev pub invariant-adding : goal.invariant-adding
invariant-adding l = record {
  found : AreFoundBelow l.routing (64 * l.block) l.fn.graph l.graph l.stopped;
  rooms : AreRooms l.routing l.gates l.rooms;
  graph : IsGraphOn l.routing l.graph;
}
