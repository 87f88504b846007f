-- What was to be done was done.

use Rattle.std.proofs.Common.{subst, sym}
use Rattle.net_world.specs.declared.ask.Letter.{Letter}
use Rattle.switch_threads.specs.Workers.{IsNext, IsToDo}
use Rattle.switch_threads.proofs.desk.Desk.ready.Goals as goal

pub work-requires : goal.work-requires
work-requires c =
    let is = c.requires in
    (is.0, is.1, subst (λ (l : Letter). IsToDo is.0 is.1 c.args.self.now c.args.papers.now l.work) (sym c.deref.ensures) (subst (IsNext is.0 is.1 c.args.self.now c.args.papers.now) c.in-Do.is is.2))

pub returns-in_ok-due-in-Do-clause-up : goal.returns-in_ok-due-in-Do-clause-up
returns-in_ok-due-in-Do-clause-up c script history is =
    let job = subst (λ (l : Letter). IsToDo script history c.args.self.now c.args.papers.now l.work) (sym c.deref.ensures) (subst (IsNext script history c.args.self.now c.args.papers.now) c.in-Do.is is) in
    c.in_ok-due-in-Do.ensures.up script history (c.in_ok-work-in-Do.ensures.done script history job)
