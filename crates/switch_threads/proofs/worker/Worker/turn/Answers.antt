-- The worker asks for what is to be asked for.

use Rattle.std.proofs.Common.{◌∙◌, subst, sym}
use Rattle.switch_threads.specs.Workers.{IsInStep}
use Rattle.switch_threads.proofs.TurnLemmas.{with_papers}
use Rattle.switch_threads.proofs.worker.Worker.turn.Goals as goal

pub ask-papers-requires-clause-step : goal.ask-papers-requires-clause-step
ask-papers-requires-clause-step g c =
    let worker = c.self.inside in
    let view = worker.seat.1 in
    let papers = c.in-Some.papers in
    subst (IsInStep view worker.desk papers) c.in-Ask.is (with_papers view worker.papers worker.desk papers worker.next (sym c.take.ensures.value ∙ c.in-Some.is) c.self.invariant)
