use Rattle.std.proofs.Common.{take}
use Rattle.dep_check.specs.Rounds.{IsRaisedTo}
use Rattle.dep_check.proofs.level.raise.Given as goal

-- those so far are raised
abbrev pub invariant-due : goal.invariant-due
invariant-due l = IsRaisedTo l.level l.fn.levels.items (take l.spot-index l.due) l.levels.items l.raised.items
