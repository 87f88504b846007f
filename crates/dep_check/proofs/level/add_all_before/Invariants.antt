use Rattle.std.proofs.Common.{◌<◌, ℕ}
use Rattle.dep_check.specs.Search.{ComesIn}
use Rattle.dep_check.specs.Rounds.{AddsDue}
use Rattle.dep_check.proofs.level.add_all_before.Given as goal

-- those are looked at that lead here by what comes in at the entries so far
abbrev pub invariant-entries : goal.invariant-entries
invariant-entries l = AddsDue l.rule l.steps l.levels (λ s. (e : ℕ) × (e < l.entry) × ComesIn l.steps s l.spot e) l.fn.due.items l.due.items
