-- The work that was taken was done.

use Rattle.std.proofs.Common.{ℕ, subst, sym}
use Rattle.net_state.specs.declared.hand.Hand.TheVariants as hand
use Rattle.net_state.specs.declared.work.Work.TheVariants as work
use Rattle.switch_threads.specs.Workers.{IsToDo, IsToHandle}
use Rattle.switch_threads.proofs.desk.Desk.work.Goals as goal

pub restart-requires : goal.restart-requires
restart-requires c =
    let is = c.requires in
    (is.0, is.1, subst (IsToDo is.0 is.1 c.args.self.now c.args.papers.now) c.in-Restart.is is.2)

pub returns-in-Restart-clause-done : goal.returns-in-Restart-clause-done
returns-in-Restart-clause-done c script history is =
    c.restart.ensures.done script history (subst (IsToDo script history c.args.self.now c.args.papers.now) c.in-Restart.is is)

pub handle-requires : goal.handle-requires
handle-requires c =
    let is = c.requires in
    (is.0, is.1, subst (IsToDo is.0 is.1 c.args.self.now c.args.papers.now) c.in-Clock.is is.2)

pub returns-in-Clock-clause-done : goal.returns-in-Clock-clause-done
returns-in-Clock-clause-done c script history is =
    c.handle.ensures.done script history (subst (IsToDo script history c.args.self.now c.args.papers.now) c.in-Clock.is is)

pub handle-requires-in-Frame : goal.handle-requires-in-Frame
handle-requires-in-Frame c =
    let is = c.requires in
    let frame : IsToDo is.0 is.1 c.args.self.now c.args.papers.now (work.Frame c.in-Frame.port) = subst (IsToDo is.0 is.1 c.args.self.now c.args.papers.now) c.in-Frame.is is.2 in
    (is.0, is.1, subst (λ (port : ℕ). IsToHandle is.0 is.1 c.args.self.now c.args.papers.now (hand.Frame port)) (sym c.as_u8.ensures) frame)

pub returns-in-Frame-clause-done : goal.returns-in-Frame-clause-done
returns-in-Frame-clause-done c script history is =
    let frame : IsToDo script history c.args.self.now c.args.papers.now (work.Frame c.in-Frame.port) = subst (IsToDo script history c.args.self.now c.args.papers.now) c.in-Frame.is is in
    c.handle-in-Frame.ensures.done script history (subst (λ (port : ℕ). IsToHandle script history c.args.self.now c.args.papers.now (hand.Frame port)) (sym c.as_u8.ensures) frame)

pub returns-in-Nothing-clause-done : goal.returns-in-Nothing-clause-done
returns-in-Nothing-clause-done c script history is =
    subst (IsToDo script history c.args.self.now c.args.papers.now) c.in-Nothing.is is
