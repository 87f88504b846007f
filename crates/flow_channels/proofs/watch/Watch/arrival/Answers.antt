use Rattle.std.proofs.Common.{sym, subst, Option}
use Rattle.std.specs.Prelude.{MatchOption}
use Rattle.flow_channels.specs.declared.board.Arrival.{Arrival}
use Rattle.flow_channels.specs.Turns.{IsFirstArrival, NoneArrives}
use Rattle.flow_channels.proofs.WatchLemmas.{found_arrives, found_low, none_before_found, none_found}
use Rattle.flow_channels.proofs.watch.Watch.arrival.Goals as goal

pub returns-in_err-place : goal.returns-in_err-place
returns-in_err-place c =
    let t = c.args.tables.now in
    let b = c.args.board.now in
    subst (λ (o : Option Arrival). MatchOption o (NoneArrives t b 1651) (IsFirstArrival t b)) (sym c.from_residual.ensures) (none_found t b c.args.self.now.arriving c.requires.watched.arriving c.in_err-place.ensures)

pub spot_at-channel-requires : goal.spot_at-channel-requires
spot_at-channel-requires c = found_low c.args.tables.now c.args.board.now c.args.self.now.arriving c.requires.watched.arriving c.in_ok-place.place c.in_ok-place.ensures

pub returns-in_err-packet : goal.returns-in_err-packet
returns-in_err-packet c = absurd (c.in_err-packet.ensures (found_arrives c.args.tables.now c.args.board.now c.args.self.now.arriving c.requires.watched.arriving c.in_ok-place.place c.spot_at-channel.result c.in_ok-place.ensures c.spot_at-channel.ensures.spot c.spot_at-channel.ensures.place))

pub returns : goal.returns
returns c =
    let t = c.args.tables.now in
    let b = c.args.board.now in
    let channel = c.spot_at-channel.result in
    record {
      channel_is = c.spot_at-channel.ensures.spot;
      arrives = c.in_ok-packet.ensures;
      before = none_before_found t b c.args.self.now.arriving c.requires.watched.arriving c.in_ok-place.place _ c.in_ok-place.ensures c.spot_at-channel.ensures.place;
    }
