use Rattle.net_game.proofs.MomentLemmas.{holds_throughout}
use Rattle.net_game.proofs.law.what_is_claimed_holds.Goals as goal

pub returns : goal.returns
returns c = holds_throughout
