use Rattle.epoch_game.proofs.GameLemmas.{nothing_ahead}
use Rattle.epoch_game.proofs.law.no_life_has_joined_an_epoch_ahead.Goals as goal

pub returns : goal.returns
returns c lives first g x e n play is = nothing_ahead lives first g play x e n is
