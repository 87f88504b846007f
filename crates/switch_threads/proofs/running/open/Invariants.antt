-- So many numbers were given, each to a worker.

use Rattle.std.proofs.Common.{◌≡◌, ◌+◌, vec_len}
use Rattle.fabric_turn.specs.Names.{turnstile_id}
use Rattle.fabric_turn.specs.Rule.{first_view}
use Rattle.switch_threads.specs.Runs.{AreWorkers, callers_of}
use Rattle.switch_threads.proofs.running.open.Given as goal

abbrev pub invariant-switches : goal.invariant-switches
invariant-switches l = record {
  seat : l.seat ≡ (turnstile_id l.turnstile, record (first_view (callers_of l.script) l.script) { next = 1 + l.s });
  count : vec_len l.workers ≡ l.s;
  workers : AreWorkers (turnstile_id l.turnstile) l.script l.workers.items;
}
