use Rattle.epoch_game.proofs.ContentLemmas.{reports_are_true}
use Rattle.epoch_game.proofs.law.reports_are_true.Goals as goal

pub returns : goal.returns
returns c = reports_are_true
