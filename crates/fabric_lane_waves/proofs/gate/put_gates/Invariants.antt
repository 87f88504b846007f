use Rattle.fabric_lane_tables.specs.Lanes.{lanes_of}
use Rattle.fabric_lane_waves.specs.LaneGates.{AreGatesBelow, AreLastGates}
use Rattle.fabric_lane_waves.proofs.gate.put_gates.Given as goal

abbrev pub invariant-sources : goal.invariant-sources
invariant-sources l = record {
  gates : AreGatesBelow l.routing.fabric.now (lanes_of l.routing.lanes.now) l.routing.traffic l.place l.spots.items l.gates;
  last : AreLastGates l.spots.items l.last;
}
