use Rattle.net_game.specs.Lives.{all_lives}
use Rattle.net_game.proofs.LivesLemmas.{firm, lives_few}
use Rattle.net_game.proofs.SettledLemmas.{if_settled}
use Rattle.net_game.proofs.law.a_settled_history_has_finished.Goals as goal

pub returns : goal.returns
returns c script kept = if_settled script (all_lives script) (lives_few script kept) kept (firm script kept)
