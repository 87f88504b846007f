use Rattle.dep_check.proofs.RankLemmas.{rank_first}
use Rattle.dep_check.proofs.level.ranks_of.Goals as goal

pub all_levels-requires-clause-below : goal.all_levels-requires-clause-below
all_levels-requires-clause-below c = rank_first c.args.steps.now c.in_ok-levels.levels.items c.in_ok-levels.ensures.none
