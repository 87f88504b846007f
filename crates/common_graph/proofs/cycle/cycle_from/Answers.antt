use Rattle.common_graph.proofs.cycle.cycle_from.Goals as goal

pub cycle_by-requires-clause-holds : goal.cycle_by-requires-clause-holds
cycle_by-requires-clause-holds c = rw c.deref.ensures.value c.in_ok-levels.ensures.holds
