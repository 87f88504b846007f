use Rattle.epoch_game.proofs.TopologyLemmas.{is_tree}
use Rattle.epoch_game.proofs.law.a_finish_is_a_tree.Goals as goal

pub returns : goal.returns
returns c = is_tree
