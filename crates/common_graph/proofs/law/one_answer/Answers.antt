use Rattle.std.specs.Cmp.{nat_cmp_total}
use Rattle.std.specs.Ordering.{nat_cmp}
use Rattle.common_values.proofs.OrderingLemmas.{nat_apart}
use Rattle.common_graph.specs.Graph.{LeadsTo}
use Rattle.common_graph.proofs.OneAnswer.{no_both, one_cycle, one_list}
use Rattle.common_graph.proofs.law.one_answer.Goals as goal

pub returns-clause-ranks : goal.returns-clause-ranks
returns-clause-ranks c graph one other passes too = one_list graph one other passes.ranked too.ranked

pub returns-clause-cycle : goal.returns-clause-cycle
returns-clause-cycle c graph one other least too = one_cycle nat_cmp nat_cmp_total nat_apart (LeadsTo graph) one other least too

pub returns-clause-either : goal.returns-clause-either
returns-clause-either c graph ranks nodes passes least = no_both nat_cmp (LeadsTo graph) nodes least passes.no_cycle
