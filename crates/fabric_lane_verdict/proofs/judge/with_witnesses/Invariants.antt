use Rattle.std.proofs.Common.{map}
use Rattle.fabric_tables.specs.Cells.{tables_of}
use Rattle.fabric_lane_tables.specs.Lanes.{lanes_of}
use Rattle.fabric_lane_tables.specs.Levels.{levels_of}
use Rattle.fabric_lane_verdict.specs.LaneVerdict.{lane_spot_at}
use Rattle.fabric_lane_verdict.proofs.WitnessLemmas.{AreSoFar}
use Rattle.fabric_lane_verdict.proofs.judge.with_witnesses.Given as goal

-- the channels so far
abbrev pub invariant-places : goal.invariant-places
invariant-places l = AreSoFar l.routing.fabric.now (tables_of l.routing.cells.now) (lanes_of l.routing.lanes.now) l.routing.traffic (levels_of l.routing.levels.now) (map (lane_spot_at l.most l.count) l.places) l.at l.channels.items
