use Rattle.std.proofs.Common.{◌+◌, length}
use Rattle.dep_check.specs.Walks.{IsWalking, unseen}
use Rattle.dep_check.proofs.walk.walk.Given as goal

-- the walk so far
abbrev pub invariant-ahead : goal.invariant-ahead
invariant-ahead l = IsWalking l.steps l.fn.start l.fn.seen.items l.seen.items l.ahead.items l.stuck

-- each spot is looked at once
abbrev pub decreases-ahead : goal.decreases-ahead
decreases-ahead l = unseen l.seen.items + length l.ahead.items
