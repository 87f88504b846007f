use Rattle.flow_channels.specs.Board.{AreEmptyQueues}
use Rattle.flow_channels.proofs.board.empty_queues.Given as goal

-- those of the first spots
abbrev pub invariant-spots : goal.invariant-spots
invariant-spots l = AreEmptyQueues l.tables.wires.items l.places l.place l.queues.items
