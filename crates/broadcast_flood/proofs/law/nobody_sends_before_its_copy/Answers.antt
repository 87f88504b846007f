use Rattle.broadcast_flood.proofs.OneLaws.{copy_first}
use Rattle.broadcast_flood.proofs.law.nobody_sends_before_its_copy.Goals as goal

pub returns : goal.returns
returns c = copy_first
