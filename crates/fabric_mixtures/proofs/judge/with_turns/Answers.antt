use Rattle.std.proofs.Common.{sym, subst, map, List, arith}
use Rattle.std.proofs.lemmas.List.{length-map}
use Rattle.common_graph.specs.Cycles.{IsLeastCycle}
use Rattle.fabric_tables.specs.Cells.{tables_of}
use Rattle.fabric_model.specs.declared.node.Spot.{Spot}
use Rattle.fabric_routes.specs.Found.{channel_of}
use Rattle.fabric_verdict.specs.Verdict.{channel_cmp, spot_at}
use Rattle.fabric_verdict.proofs.LoopLemmas.{done, loop_places, more, next_at, spot_there}
use Rattle.fabric_mixtures.specs.declared.judge.LoopChannel.{LoopChannel}
use Rattle.fabric_mixtures.specs.Mixtures.{MayBeFollowed}
use Rattle.fabric_mixtures.proofs.VerdictLemmas.{Fits, channel_in}
use Rattle.fabric_mixtures.proofs.judge.with_turns.Goals as goal

abbrev origin : Spot
origin = record { switch = 0; port = 0 }

pub turn_of-turn-requires-clause-follows : goal.turn_of-turn-requires-clause-follows
turn_of-turn-requires-clause-follows c = loop_places (spot_at c.args.most) channel_of channel_cmp (MayBeFollowed c.args.fabric.now (tables_of c.args.old.now) (tables_of c.args.new.now)) c.args.places.now c.places.at c.spot_of-channel.result c.spot_of-next.result c.places-test.true c.spot_of-channel.ensures c.spot_of-next.ensures c.requires.least

pub places-preserved : goal.places-preserved
places-preserved c =
    let spots = map (spot_at c.args.most) c.args.places.now in
    let one : LoopChannel = record { channel = c.spot_of-channel.result; turn = c.turn_of-turn.result } in
    let size = length-map c.args.places.now (spot_at c.args.most) in
    more channel_in (Fits c.args.fabric.now (tables_of c.args.old.now) (tables_of c.args.new.now)) spots c.places.channels.items c.push.new.self.items one c.places.at origin c.in_ok-push.ensures.items (let less = c.places-test.true in omega arith) c.places.invariant
    (sym (spot_there (spot_at c.args.most) c.args.places.now c.places.at origin c.spot_of-channel.result c.places-test.true c.spot_of-channel.ensures))
    (subst (λ (s : Spot). Fits c.args.fabric.now (tables_of c.args.old.now) (tables_of c.args.new.now) one s) (sym (next_at (spot_at c.args.most) c.args.places.now c.places.at origin c.spot_of-next.result c.places-test.true c.spot_of-next.ensures)) c.turn_of-turn.ensures)

pub returns : goal.returns
returns c =
    let size = length-map c.args.places.now (spot_at c.args.most) in
    let all = done channel_in (Fits c.args.fabric.now (tables_of c.args.old.now) (tables_of c.args.new.now)) (map (spot_at c.args.most) c.args.places.now) c.places.channels.items c.places.at (let past = c.places-test.false in omega arith) c.places.invariant in
    record {
      least = subst (λ (xs : List Spot). IsLeastCycle channel_cmp (MayBeFollowed c.args.fabric.now (tables_of c.args.old.now) (tables_of c.args.new.now)) (map channel_of xs)) (sym all.0) c.requires.least;
      turns = all.1;
    }
