use Rattle.epoch_game.proofs.StreamLemmas.{has_grown}
use Rattle.epoch_game.proofs.law.lists_only_grow.Goals as goal

pub returns : goal.returns
returns c = has_grown
