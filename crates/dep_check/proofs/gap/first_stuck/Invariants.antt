use Rattle.std.proofs.Common.{◌≡◌, ◌<◌, ℕ, [], length}
use Rattle.dep_check.specs.Pairs.{IsStuckFrom}
use Rattle.dep_check.specs.Walks.{IsClear}
use Rattle.dep_check.proofs.gap.first_stuck.Given as goal

-- packets get stuck at nothing that is seen, and from none of the numbers so far
abbrev pub invariant-numbers : goal.invariant-numbers
invariant-numbers l = record { count : length l.seen.items ≡ 1651; empty : l.ahead.items ≡ []; clear : IsClear l.steps l.seen.items; none : (f : ℕ) → f < l.from → IsStuckFrom l.numbers l.steps l.to f → ⊥ }
