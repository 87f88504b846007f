use Rattle.std.proofs.Common.{sym, subst}
use Rattle.std.specs.Prelude.{drop}
use Rattle.flow_channels.specs.Board.{flow_of, ways}
use Rattle.flow_channels.specs.Flows.{FlowOf, queue_at}
use Rattle.flow_channels.specs.Watch.{IsTouched}
use Rattle.flow_channels.proofs.WatchLemmas.{asked_touched}
use Rattle.flow_channels.proofs.watch.Watch.leave.Goals as goal

pub see-requires-clause-was : goal.see-requires-clause-was
see-requires-clause-was c =
    let t = c.args.tables.now in
    let old = flow_of c.args.board.now in
    record {
      old = old;
      held = c.requires.watched;
      touched = subst (λ (f : FlowOf). IsTouched (ways t) c.args.channel old f) (sym c.leave-ahead.ensures.flow) (asked_touched (ways t) c.args.channel (drop 1 (queue_at old c.args.channel)) old);
    }
