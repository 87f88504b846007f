use Rattle.net_game.specs.Lives.{all_lives}
use Rattle.net_game.proofs.EmbedLemmas.{embedded}
use Rattle.net_game.proofs.LivesLemmas.{firm}
use Rattle.net_game.proofs.law.a_history_happens_in_a_network.Goals as goal

pub returns : goal.returns
returns c script kept = embedded script (all_lives script) kept (firm script kept)
