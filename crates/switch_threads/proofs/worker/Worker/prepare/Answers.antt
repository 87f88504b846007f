-- What is to be done before a turn was done.

use Rattle.std.proofs.Common.{◌∙◌, sym}
use Rattle.switch_threads.proofs.TurnLemmas.{ready_step, with_papers}
use Rattle.switch_threads.proofs.worker.Worker.prepare.Goals as goal

pub ready-requires : goal.ready-requires
ready-requires g c =
    let worker = c.self.inside in
    let view = worker.seat.1 in
    let papers = c.in-Some.papers in
    let step = with_papers view worker.papers worker.desk papers worker.next (sym c.take.ensures.value ∙ c.in-Some.is) c.self.invariant in
    (step.script, view.seen, c.once_roused.ensures step.script view.seen worker.desk papers step.fits)

pub invariant_of-self-2 : goal.invariant_of-self-2
invariant_of-self-2 g c =
    let worker = c.self.inside in
    let view = worker.seat.1 in
    let papers = c.in-Some.papers in
    let step = with_papers view worker.papers worker.desk papers worker.next (sym c.take.ensures.value ∙ c.in-Some.is) c.self.invariant in
    ready_step view worker.desk c.ready.new.self papers c.ready.new.papers worker.next c.in-Ok.next step c.ready.ensures.place c.ready.ensures.told
    (c.in-Ok.ensures.up step.script view.seen (c.once_roused.ensures step.script view.seen worker.desk papers step.fits))
