use Rattle.replay.proofs.OneDivision.{one_division}
use Rattle.replay.proofs.law.one_division.Goals as goal

pub returns : goal.returns
returns c = one_division
