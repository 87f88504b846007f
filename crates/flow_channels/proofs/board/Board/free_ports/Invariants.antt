use Rattle.flow_channels.proofs.TurnLemmas.{AreFreeBelow}
use Rattle.flow_channels.proofs.board.Board.free_ports.Given as goal

-- of the ports so far the set has those whose channels have room
abbrev pub invariant-ports : goal.invariant-ports
invariant-ports l = AreFreeBelow l.tables l.self l.at l.port l.free
