use Rattle.net_graph.proofs.FarLemmas.{far_joins}
use Rattle.net_graph.proofs.law.far_ends.Goals as goal

pub returns : goal.returns
returns c = far_joins
