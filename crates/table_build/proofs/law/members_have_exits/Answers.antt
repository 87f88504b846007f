use Rattle.table_build.proofs.ShortestLaws.{shortest_route, member_exit}
use Rattle.table_build.proofs.law.members_have_exits.Goals as goal

pub returns-clause-shortest : goal.returns-clause-shortest
returns-clause-shortest c = λ es x y graph tree low low'. shortest_route es x y graph tree low low'

pub returns-clause-exits : goal.returns-clause-exits
returns-clause-exits c = λ es any x y graph tree low low' other. member_exit es any x y graph tree low low' other
