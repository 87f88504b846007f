use Rattle.dep_check.specs.Channels.{far_at}
use Rattle.dep_check.specs.Tables.{rank_at}
use Rattle.dep_check.proofs.PacketLaws.{long_rank, ends_there, comes_there}
use Rattle.dep_check.proofs.law.packets_reach_their_targets.Goals as goal

pub returns-clause-bounded : goal.returns-clause-bounded
returns-clause-bounded c = λ es numbers rows ranks to links start end passes walk.
    let long = long_rank (far_at es numbers) rows (rank_at ranks) passes.ranked to links start end walk in
    (long.0, long.1, long.2, long.4, long.5)

pub returns-clause-ended : goal.returns-clause-ended
returns-clause-ended c = λ es numbers rows ranks from to links end passes between walk stuck. ends_there (far_at es numbers) rows (rank_at ranks) passes.ranked numbers from to passes.joined between links end walk stuck

pub returns-clause-reached : goal.returns-clause-reached
returns-clause-reached c = λ es numbers rows ranks from to links there passes between walk. comes_there (far_at es numbers) rows (rank_at ranks) passes.ranked numbers from to passes.joined between links there walk
