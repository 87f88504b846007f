use Rattle.std.proofs.Common.{sym, subst, ℕ, ◌+◌, List}
use Rattle.flow_channels.specs.Board.{flow_of}
use Rattle.flow_channels.specs.Watch.{AreFreePorts}
use Rattle.flow_channels.proofs.WatchLemmas.{free_pushed}
use Rattle.flow_channels.proofs.watch.all_free.Goals as goal

pub numbers-preserved : goal.numbers-preserved
numbers-preserved c =
    let t = c.args.tables.now in
    let flow = flow_of c.args.board.now in
    subst (λ (sets : List ℕ). AreFreePorts t flow (c.numbers.at + 1) sets) (sym c.in_ok-push.ensures.items) (
    free_pushed t flow c.numbers.at c.numbers.free.items c.free_ports.result c.numbers.invariant c.free_ports.ensures)
