use Rattle.flow_channels.specs.Board.{AreIdleRouters}
use Rattle.flow_channels.proofs.board.idle_routers.Given as goal

-- those of the first numbers
abbrev pub invariant-numbers : goal.invariant-numbers
invariant-numbers l = AreIdleRouters l.tables.wires.items l.most l.at l.routers.items
