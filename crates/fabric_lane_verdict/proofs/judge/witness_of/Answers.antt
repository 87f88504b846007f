use Rattle.std.proofs.lemmas.Option.{MatchOption-at_none}
use Rattle.fabric_tables.specs.Cells.{tables_of}
use Rattle.fabric_lane_tables.specs.Lanes.{lanes_of}
use Rattle.fabric_lane_tables.specs.Levels.{levels_of}
use Rattle.fabric_lane_routes.specs.LaneFound.{IsLeastLaneWitness}
use Rattle.fabric_lane_witness.specs.Witness.{HasNoLaneWitness, lane_channel_of}
use Rattle.fabric_lane_witness.specs.declared.witness.LaneWitness.{LaneWitness}
use Rattle.fabric_lane_verdict.proofs.WitnessLemmas.{first_low, second_low}
use Rattle.fabric_lane_verdict.proofs.judge.witness_of.Goals as goal

pub find_lane_witness-requires-clause-channel : goal.find_lane_witness-requires-clause-channel
find_lane_witness-requires-clause-channel c = first_low c.args.routing.now.fabric.now (tables_of c.args.routing.now.cells.now) (lanes_of c.args.routing.now.lanes.now) c.args.routing.now.traffic (levels_of c.args.routing.now.levels.now) c.requires.fabric (lane_channel_of c.args.channel) (lane_channel_of c.args.next) c.requires.depends

pub find_lane_witness-requires-clause-next : goal.find_lane_witness-requires-clause-next
find_lane_witness-requires-clause-next c = second_low c.args.routing.now.fabric.now (tables_of c.args.routing.now.cells.now) (lanes_of c.args.routing.now.lanes.now) c.args.routing.now.traffic (levels_of c.args.routing.now.levels.now) c.requires.fabric (lane_channel_of c.args.channel) (lane_channel_of c.args.next) c.requires.depends

pub unreachable-requires : goal.unreachable-requires
unreachable-requires c =
    let by = c.requires.depends in
    MatchOption-at_none (HasNoLaneWitness c.args.routing.now.fabric.now (tables_of c.args.routing.now.cells.now) (lanes_of c.args.routing.now.lanes.now) c.args.routing.now.traffic (levels_of c.args.routing.now.levels.now) (lane_channel_of c.args.channel) (lane_channel_of c.args.next)) (λ (w : LaneWitness). IsLeastLaneWitness c.args.routing.now.fabric.now (tables_of c.args.routing.now.cells.now) (lanes_of c.args.routing.now.lanes.now) c.args.routing.now.traffic (levels_of c.args.routing.now.levels.now) (lane_channel_of c.args.channel) (lane_channel_of c.args.next) w.lid w.source w.level) c.in-None.is c.in_ok-witness.ensures by.0 by.1 by.2 by.3
