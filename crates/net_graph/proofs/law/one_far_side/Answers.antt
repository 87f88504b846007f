use Rattle.net_graph.proofs.OneFar.{one_far}
use Rattle.net_graph.proofs.law.one_far_side.Goals as goal

pub returns : goal.returns
returns c = one_far
