use Rattle.std.specs.Prelude.{sum}
use Rattle.flow_channels.specs.Board.{flow_of, IsKept}
use Rattle.flow_channels.specs.Turns.{IsSame}
use Rattle.flow_channels.specs.Watch.{IsWatched}
use Rattle.flow_channels.proofs.watch.Watch.departure.Given as goal

-- all is as it was, but that some switches are seen to be idle
abbrev pub invariant-numbers : goal.invariant-numbers
invariant-numbers l = record {
  kept : IsKept l.tables l.board;
  same : IsSame l.initial.board l.board;
  watched : IsWatched l.tables (flow_of l.board) l.self;
}

abbrev pub decreases-numbers : goal.decreases-numbers
decreases-numbers l = sum l.self.awake
