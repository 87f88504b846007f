use Rattle.flow_channels.specs.Board.{flow_of}
use Rattle.flow_channels.specs.Watch.{AreFreePorts}
use Rattle.flow_channels.proofs.watch.all_free.Given as goal

-- the switches so far
abbrev pub invariant-numbers : goal.invariant-numbers
invariant-numbers l = AreFreePorts l.tables (flow_of l.board) l.at l.free.items
