use Rattle.std.proofs.Common.{sym, subst}
use Rattle.flow_channels.specs.Board.{flow_of, packet_at, ways}
use Rattle.flow_channels.specs.Flows.{FlowOf}
use Rattle.flow_channels.specs.Watch.{IsTouched}
use Rattle.flow_channels.proofs.WatchLemmas.{come_touched}
use Rattle.flow_channels.proofs.watch.Watch.come_into.Goals as goal

pub see-requires-clause-was : goal.see-requires-clause-was
see-requires-clause-was c =
    let t = c.args.tables.now in
    let old = flow_of c.args.board.now in
    record {
      old = old;
      held = c.requires.watched;
      touched = subst (λ (f : FlowOf). IsTouched (ways t) c.args.channel old f) (sym c.come_into-ahead.ensures.flow) (come_touched (ways t) c.args.channel (packet_at c.args.board.now.packets.items c.args.slot) old);
    }
