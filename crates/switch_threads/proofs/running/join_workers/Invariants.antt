-- The seat has each number that no worker has any more, and of each of them what was told.

use Rattle.std.proofs.Common.{◌≡◌, ◌+◌, Some, length, vec_len}
use Rattle.fabric_turn.specs.Names.{turnstile_id}
use Rattle.switch_threads.specs.Runs.{AreToldDown, AreWorkers, HasSeenMore, callers_of}
use Rattle.switch_threads.proofs.running.join_workers.Given as goal

abbrev pub decreases-workers : goal.decreases-workers
decreases-workers l = vec_len l.workers

abbrev pub invariant-workers : goal.invariant-workers
invariant-workers l = record {
  turnstile : l.seat.0 ≡ turnstile_id l.turnstile;
  begun : l.seat.1.start ≡ Some l.script;
  callers : l.seat.1.callers ≡ callers_of l.script;
  next : l.seat.1.next ≡ callers_of l.script;
  count : vec_len l.accounts + vec_len l.workers ≡ length l.script.wires.switches;
  ended : length l.seat.1.ended ≡ vec_len l.accounts;
  more : HasSeenMore l.fn.seat.1 l.seat.1;
  workers : AreWorkers (turnstile_id l.turnstile) l.script l.workers.items;
  told : AreToldDown l.script l.seat.1 l.accounts.items;
}
