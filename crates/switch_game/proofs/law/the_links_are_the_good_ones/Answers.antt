use Rattle.switch_game.proofs.Laws.{life_of, links_of, no_peers_of, peers_of}
use Rattle.switch_game.proofs.law.the_links_are_the_good_ones.Goals as goal

pub returns-clause-life : goal.returns-clause-life
returns-clause-life c = life_of

pub returns-clause-links : goal.returns-clause-links
returns-clause-links c = links_of

pub returns-clause-peers : goal.returns-clause-peers
returns-clause-peers c = peers_of

pub returns-clause-unjoined : goal.returns-clause-unjoined
returns-clause-unjoined c = no_peers_of
