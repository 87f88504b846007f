-- There was none.

use Rattle.std.proofs.Common.{◌∙◌, ap, subst, sym}
use Rattle.net_world.specs.declared.ask.Letter.{Letter}
use Rattle.switch_threads.specs.Workers.{IsToDo}
use Rattle.switch_threads.proofs.desk.Papers.after_take.Goals as goal

pub returns-in-Nothing : goal.returns-in-Nothing
returns-in-Nothing c script history desk is =
    subst (IsToDo script history desk c.args.self.now) (ap (λ (l : Letter). l.work) (sym c.deref.ensures) ∙ c.in-Nothing.is) is
