-- All seats made calls.

use Rattle.switch_threads.specs.Runs.{HasCalled, HaveCalled}
use Rattle.switch_threads.proofs.running.shifts.Given as goal

abbrev pub invariant-shifts : goal.invariant-shifts
invariant-shifts g l = HasCalled l.fn.driver.seat l.driver.seat × HaveCalled l.fn.workers l.workers
