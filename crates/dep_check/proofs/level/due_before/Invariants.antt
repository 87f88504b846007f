use Rattle.std.proofs.Common.{[], take}
use Rattle.dep_check.specs.Rounds.{AddsDue, LeadsToOne}
use Rattle.dep_check.proofs.level.due_before.Given as goal

-- those that lead to one of the first are looked at
abbrev pub invariant-last : goal.invariant-last
invariant-last l = AddsDue l.rule l.steps l.levels (LeadsToOne l.steps (take l.spot-index l.last)) [] l.due.items
