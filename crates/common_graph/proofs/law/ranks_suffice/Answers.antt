use Rattle.common_graph.specs.Graph.{LeadsTo, value_at}
use Rattle.common_graph.proofs.RankLemmas.{fall_no_cycle}
use Rattle.common_graph.proofs.law.ranks_suffice.Goals as goal

pub returns : goal.returns
returns c graph ranks fall = fall_no_cycle (LeadsTo graph) (value_at ranks) fall
