use Rattle.net_game.specs.Lives.{all_lives}
use Rattle.net_game.proofs.LivesLemmas.{firm, lives_few}
use Rattle.net_game.proofs.TraceLemmas.{hops_by_tables}
use Rattle.net_game.proofs.RouteLemmas.{legal_routes}
use Rattle.net_game.proofs.DeliveredLemmas.{delivered}
use Rattle.net_game.proofs.law.what_moves_say.Goals as goal

pub returns-clause-hops : goal.returns-clause-hops
returns-clause-hops c script kept = hops_by_tables script (all_lives script) (lives_few script kept) kept (firm script kept)

pub returns-clause-routes : goal.returns-clause-routes
returns-clause-routes c script kept = legal_routes script (all_lives script) (lives_few script kept) kept (firm script kept)

pub returns-clause-delivered : goal.returns-clause-delivered
returns-clause-delivered c = delivered
