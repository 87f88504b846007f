use Rattle.std.proofs.Common.{sym, subst, map, arith}
use Rattle.std.proofs.lemmas.List.{length-map}
use Rattle.fabric_tables.specs.Cells.{tables_of}
use Rattle.fabric_lane_tables.specs.Lanes.{lanes_of}
use Rattle.fabric_lane_tables.specs.Levels.{levels_of}
use Rattle.fabric_verdict.proofs.LoopLemmas.{loop_places, more, next_at, spot_there}
use Rattle.fabric_lane_routes.specs.LaneRoutes.{LaneDependsOn}
use Rattle.fabric_lane_witness.specs.Witness.{lane_channel_of}
use Rattle.fabric_lane_witness.specs.declared.witness.LaneSpot.{LaneSpot}
use Rattle.fabric_lane_verdict.specs.declared.verdict.LaneLoopChannel.{LaneLoopChannel}
use Rattle.fabric_lane_verdict.specs.LaneVerdict.{IsLaneWitnessed, lane_channel_cmp, lane_spot_at}
use Rattle.fabric_lane_verdict.proofs.WitnessLemmas.{channel_in, done}
use Rattle.fabric_lane_verdict.proofs.judge.with_witnesses.Goals as goal

abbrev origin : LaneSpot
origin = record { switch = 0; port = 0; lane = 0 }

pub witness_of-requires-clause-depends : goal.witness_of-requires-clause-depends
witness_of-requires-clause-depends c = loop_places (lane_spot_at c.args.most c.args.count) lane_channel_of lane_channel_cmp (LaneDependsOn c.args.routing.now.fabric.now (tables_of c.args.routing.now.cells.now) (lanes_of c.args.routing.now.lanes.now) c.args.routing.now.traffic (levels_of c.args.routing.now.levels.now)) c.args.places.now c.places.at c.lane_spot_of-channel.result c.lane_spot_of-next.result c.places-test.true c.lane_spot_of-channel.ensures c.lane_spot_of-next.ensures c.requires.least

pub places-preserved : goal.places-preserved
places-preserved c =
    let spots = map (lane_spot_at c.args.most c.args.count) c.args.places.now in
    let one : LaneLoopChannel = record { channel = c.lane_spot_of-channel.result; witness = c.in_ok-witness.witness } in
    let size = length-map c.args.places.now (lane_spot_at c.args.most c.args.count) in
    more channel_in (IsLaneWitnessed c.args.routing.now.fabric.now (tables_of c.args.routing.now.cells.now) (lanes_of c.args.routing.now.lanes.now) c.args.routing.now.traffic (levels_of c.args.routing.now.levels.now)) spots c.places.channels.items c.push.new.self.items one c.places.at origin c.in_ok-push.ensures.items (let less = c.places-test.true in omega arith) c.places.invariant
    (sym (spot_there (lane_spot_at c.args.most c.args.count) c.args.places.now c.places.at origin c.lane_spot_of-channel.result c.places-test.true c.lane_spot_of-channel.ensures))
    (subst (λ (s : LaneSpot). IsLaneWitnessed c.args.routing.now.fabric.now (tables_of c.args.routing.now.cells.now) (lanes_of c.args.routing.now.lanes.now) c.args.routing.now.traffic (levels_of c.args.routing.now.levels.now) one s) (sym (next_at (lane_spot_at c.args.most c.args.count) c.args.places.now c.places.at origin c.lane_spot_of-next.result c.places-test.true c.lane_spot_of-next.ensures)) c.in_ok-witness.ensures)

pub returns : goal.returns
returns c =
    let size = length-map c.args.places.now (lane_spot_at c.args.most c.args.count) in
    done c.args.routing.now.fabric.now (tables_of c.args.routing.now.cells.now) (lanes_of c.args.routing.now.lanes.now) c.args.routing.now.traffic (levels_of c.args.routing.now.levels.now) (map (lane_spot_at c.args.most c.args.count) c.args.places.now) c.places.channels.items c.places.at c.requires.least (let past = c.places-test.false in omega arith) c.places.invariant
