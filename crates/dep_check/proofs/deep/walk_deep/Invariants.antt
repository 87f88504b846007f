use Rattle.std.proofs.Common.{◌≡◌, ◌+◌, ◌*◌, length, All}
use Rattle.dep_check.specs.Tables.{IsSpot}
use Rattle.dep_check.specs.Walks.{unseen}
use Rattle.dep_check.specs.Deep.{AreVisits}
use Rattle.dep_check.proofs.deep.walk_deep.Given as goal

-- all is of spots
abbrev pub invariant-path : goal.invariant-path
invariant-path l = record { count : length l.seen.items ≡ 1651; visits : AreVisits l.path.items; left : All IsSpot l.left.items }

-- each spot that is not seen may bring fifteen visits
abbrev pub decreases-path : goal.decreases-path
decreases-path l = 15 * unseen l.seen.items + length l.path.items
