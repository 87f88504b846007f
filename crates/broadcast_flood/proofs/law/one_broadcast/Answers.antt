use Rattle.broadcast_flood.proofs.OneLaws.{one_list}
use Rattle.broadcast_flood.proofs.law.one_broadcast.Goals as goal

pub returns : goal.returns
returns c = one_list
