use Rattle.net_game.specs.Lives.{all_lives}
use Rattle.net_game.proofs.EmbedLemmas.{is_heard}
use Rattle.net_game.proofs.LivesLemmas.{firm}
use Rattle.net_game.proofs.law.what_is_heard_was_sent.Goals as goal

pub returns : goal.returns
returns c script kept = is_heard script (all_lives script) kept (firm script kept)
