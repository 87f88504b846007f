use Rattle.common_graph.proofs.verdict.verdict_of.Goals as goal

pub least_cycle-requires : goal.least_cycle-requires
least_cycle-requires c = rw c.deref.ensures.value c.in_ok-tiers.ensures
