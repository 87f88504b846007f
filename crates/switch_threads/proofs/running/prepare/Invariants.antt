-- The seats made calls.

use Rattle.switch_threads.specs.Runs.{HaveCalled}
use Rattle.switch_threads.proofs.running.prepare.Given as goal

abbrev pub invariant-workers : goal.invariant-workers
invariant-workers g l = HaveCalled l.fn.workers l.workers
