use Rattle.net_graph.proofs.OneForest.{one_forest_of}
use Rattle.net_graph.proofs.law.one_forest.Goals as goal

pub returns : goal.returns
returns c = one_forest_of
