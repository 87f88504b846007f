-- The seat made calls.

use Rattle.switch_threads.specs.Runs.{HasCalled}
use Rattle.switch_threads.proofs.driver.Driver.steps.Given as goal

abbrev pub invariant-steps : goal.invariant-steps
invariant-steps g l = HasCalled l.initial.self.seat l.self.seat
