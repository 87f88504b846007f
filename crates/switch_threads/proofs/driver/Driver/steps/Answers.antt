-- The calls so far, and that of a step.

use Rattle.switch_threads.proofs.RunLemmas.{called_then}
use Rattle.switch_threads.proofs.driver.Driver.steps.Goals as goal

pub steps-preserved : goal.steps-preserved
steps-preserved g c = called_then c.args.self.now.seat c.steps.self.seat c.step.new.self.seat c.steps.invariant c.step.ensures
