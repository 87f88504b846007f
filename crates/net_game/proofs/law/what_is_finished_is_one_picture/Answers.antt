use Rattle.net_game.specs.Lives.{all_lives}
use Rattle.net_game.proofs.ClauseLemmas.{one_picture, topologies}
use Rattle.net_game.proofs.RoutedLemmas.{all_routed}
use Rattle.net_game.proofs.OwnTables.{own_tables, none_is_older}
use Rattle.net_game.proofs.MomentLemmas.{holds_at}
use Rattle.net_game.proofs.LivesLemmas.{firm, lives_few}
use Rattle.net_game.proofs.law.what_is_finished_is_one_picture.Goals as goal

pub returns-clause-picture : goal.returns-clause-picture
returns-clause-picture c script kept = one_picture script (all_lives script) (lives_few script kept) kept (firm script kept)

pub returns-clause-topologies : goal.returns-clause-topologies
returns-clause-topologies c script kept = topologies script (all_lives script) (lives_few script kept) kept (firm script kept)

pub returns-clause-routed : goal.returns-clause-routed
returns-clause-routed c script kept h = all_routed script h (topologies script (all_lives script) (lives_few script kept) kept (firm script kept) h)

pub returns-clause-older : goal.returns-clause-older
returns-clause-older c script kept = none_is_older script (all_lives script) (lives_few script kept) kept (firm script kept)

pub returns-clause-tables : goal.returns-clause-tables
returns-clause-tables c script kept = own_tables script (all_lives script) (lives_few script kept) kept (firm script kept)

pub returns-clause-moments : goal.returns-clause-moments
returns-clause-moments c script kept h before later is = holds_at script kept before
