use Rattle.net_settling.proofs.Whole.{all_through, settles_soon}
use Rattle.net_settling.proofs.law.all_settles.Goals as goal

pub returns-clause-through : goal.returns-clause-through
returns-clause-through c = all_through

pub returns-clause-settles : goal.returns-clause-settles
returns-clause-settles c = λ script kept history lawful. (settles_soon script kept history lawful).all
