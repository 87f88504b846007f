use Rattle.epoch_game.proofs.FinishLemmas.{finished_alike}
use Rattle.epoch_game.proofs.law.one_root_gives_one_topology.Goals as goal

pub returns : goal.returns
returns c = λ lives s x y n m t u e f few run sx dx i sy dy j same. finished_alike lives s x y n m t u e f few run sx sy dx dy i j same
