use Rattle.net_world.proofs.ExampleLemmas.{are_worked_out}
use Rattle.net_world.proofs.law.some_histories_are_worked_out.Goals as goal

pub returns : goal.returns
returns c = assumption are_worked_out
