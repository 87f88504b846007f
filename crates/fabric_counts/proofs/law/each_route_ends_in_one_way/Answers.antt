use Rattle.fabric_counts.proofs.EndLemmas.{one_outcome, some_outcome}
use Rattle.fabric_counts.proofs.law.each_route_ends_in_one_way.Goals as goal

pub returns-clause-ends : goal.returns-clause-ends
returns-clause-ends c fabric tables traffic route fits is = some_outcome fabric fits tables traffic route is

pub returns-clause-one : goal.returns-clause-one
returns-clause-one c fabric tables route one other first second = one_outcome fabric tables route one other first second
