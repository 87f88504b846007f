use Rattle.std.proofs.Common.{◌≡◌, length}
use Rattle.dep_check.specs.Rounds.{AreDue, AreLevelsBelow}
use Rattle.dep_check.proofs.level.all_levels.Given as goal

-- the levels below the round, and what is due next
abbrev pub invariant-rounds : goal.invariant-rounds
invariant-rounds l = record { below : AreLevelsBelow l.rule l.steps l.round l.levels.items; due : AreDue l.rule l.steps l.levels.items l.due.items; count : length l.levels.items ≡ 1651 }
