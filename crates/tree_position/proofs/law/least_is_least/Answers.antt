use Rattle.tree_position.proofs.LeastLemmas.{least_is}
use Rattle.tree_position.proofs.law.least_is_least.Goals as goal

pub returns : goal.returns
returns c = least_is
