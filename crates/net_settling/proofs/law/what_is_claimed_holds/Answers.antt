use Rattle.net_settling.proofs.Whole.{holds_and_settles}
use Rattle.net_settling.proofs.law.what_is_claimed_holds.Goals as goal

pub returns : goal.returns
returns c = holds_and_settles
