use Rattle.epoch_game.proofs.FinishLemmas.{finished_under}
use Rattle.epoch_game.proofs.law.a_finish_comes_from_a_stable_root.Goals as goal

pub returns : goal.returns
returns c = λ lives s x n t few run sx done. finished_under lives s few run x n t sx done
