-- All seats made calls.

use Rattle.switch_threads.specs.Runs.{HasCalled, HaveCalled}
use Rattle.switch_threads.proofs.running.lead.Given as goal

abbrev pub invariant-rounds : goal.invariant-rounds
invariant-rounds g l = HasCalled l.fn.driver.seat l.driver.seat × HaveCalled l.fn.workers l.workers
