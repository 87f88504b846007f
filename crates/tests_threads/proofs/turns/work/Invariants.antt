use Rattle.std.proofs.Common.{◌≡◌}
use Rattle.fabric_turn.specs.Calls.{DifferByCalls}
use Rattle.tests_threads.proofs.turns.work.Given as goal

abbrev pub invariant-loop-number : goal.invariant-loop-number
invariant-loop-number g l = (l.seat.0 ≡ l.fn.seat.0) × DifferByCalls l.fn.seat.1 l.seat.1
