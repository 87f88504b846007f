use Rattle.std.proofs.Common.{sym, subst, map, arith}
use Rattle.std.proofs.lemmas.List.{length-map}
use Rattle.fabric_tables.specs.Cells.{tables_of}
use Rattle.fabric_model.specs.declared.node.Spot.{Spot}
use Rattle.fabric_routes.specs.Found.{channel_of}
use Rattle.fabric_routes.specs.Routes.{DependsOn}
use Rattle.fabric_verdict.specs.declared.verdict.LoopChannel.{LoopChannel}
use Rattle.fabric_verdict.specs.Verdict.{IsWitnessed, channel_cmp, spot_at}
use Rattle.fabric_verdict.proofs.LoopLemmas.{loop_places, more, next_at, spot_there}
use Rattle.fabric_verdict.proofs.WitnessLemmas.{channel_in, done}
use Rattle.fabric_verdict.proofs.judge.with_witnesses.Goals as goal

abbrev origin : Spot
origin = record { switch = 0; port = 0 }

pub witness_of-requires-clause-depends : goal.witness_of-requires-clause-depends
witness_of-requires-clause-depends c = loop_places (spot_at c.args.most) channel_of channel_cmp (DependsOn c.args.fabric.now (tables_of c.args.cells.now) c.args.traffic) c.args.places.now c.places.at c.spot_of-channel.result c.spot_of-next.result c.places-test.true c.spot_of-channel.ensures c.spot_of-next.ensures c.requires.least

pub places-preserved : goal.places-preserved
places-preserved c =
    let spots = map (spot_at c.args.most) c.args.places.now in
    let one : LoopChannel = record { channel = c.spot_of-channel.result; witness = c.in_ok-witness.witness } in
    let size = length-map c.args.places.now (spot_at c.args.most) in
    more channel_in (IsWitnessed c.args.fabric.now (tables_of c.args.cells.now) c.args.traffic) spots c.places.channels.items c.push.new.self.items one c.places.at origin c.in_ok-push.ensures.items (let less = c.places-test.true in omega arith) c.places.invariant
    (sym (spot_there (spot_at c.args.most) c.args.places.now c.places.at origin c.spot_of-channel.result c.places-test.true c.spot_of-channel.ensures))
    (subst (λ (s : Spot). IsWitnessed c.args.fabric.now (tables_of c.args.cells.now) c.args.traffic one s) (sym (next_at (spot_at c.args.most) c.args.places.now c.places.at origin c.spot_of-next.result c.places-test.true c.spot_of-next.ensures)) c.in_ok-witness.ensures)

pub returns : goal.returns
returns c =
    let size = length-map c.args.places.now (spot_at c.args.most) in
    done c.args.fabric.now (tables_of c.args.cells.now) c.args.traffic (map (spot_at c.args.most) c.args.places.now) c.places.channels.items c.places.at c.requires.least (let past = c.places-test.false in omega arith) c.places.invariant
