use Rattle.std.proofs.Common.{◌<◌, []}
use Rattle.dep_check.specs.Tables.{IsSpot, place_of}
use Rattle.dep_check.specs.Rounds.{AddsDue}
use Rattle.dep_check.proofs.level.all_due.Given as goal

-- the spots so far are looked at
abbrev pub invariant-spots : goal.invariant-spots
invariant-spots l = AddsDue l.rule l.steps l.levels (λ s. IsSpot s × (place_of s < l.place)) [] l.due.items
