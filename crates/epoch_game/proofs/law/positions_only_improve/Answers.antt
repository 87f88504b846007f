use Rattle.epoch_game.proofs.ImproveLemmas.{only_improves}
use Rattle.epoch_game.proofs.law.positions_only_improve.Goals as goal

pub returns : goal.returns
returns c = only_improves
