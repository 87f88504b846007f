use Rattle.std.proofs.Common.{subst, sym, arith, ℕ, ◌+◌}
use Rattle.flow_channels.proofs.TurnLemmas.{all_free, AreFreeBelow, none_free, not_both, one_free, one_full}
use Rattle.flow_channels.proofs.board.Board.free_ports.Goals as goal
use Rattle.flow_channels.proofs.board.Board.free_ports.Goals.{then-has_room, else-has_room}

pub ports-init : goal.ports-init
ports-init c = none_free c.args.tables.now c.args.self.now c.args.at

pub ports-preserved : goal.ports-preserved
ports-preserved c = elim c.if-has_room.branch [
  | then-has_room w ↦ (
      let low = c.ports-test.true in
      subst (λ (free : ℕ). AreFreeBelow c.args.tables.now c.args.self.now c.args.at (c.ports.port + 1) free) (sym w.free-is) (
      one_free c.args.tables.now c.args.self.now c.args.at c.ports.port c.ports.free (omega arith) c.ports.invariant (c.has_room.ensures.0 w.if-has_room.true)))
  | else-has_room w ↦ subst (λ (free : ℕ). AreFreeBelow c.args.tables.now c.args.self.now c.args.at (c.ports.port + 1) free) (sym w.free-is) (
      one_full c.args.tables.now c.args.self.now c.args.at c.ports.port c.ports.free c.ports.invariant (λ room. not_both c.has_room.result (c.has_room.ensures.1 room) w.if-has_room.false))
]

pub returns : goal.returns
returns c = all_free c.args.tables.now c.args.self.now c.args.at c.ports.port c.ports.free c.ports-test.false c.ports.invariant
