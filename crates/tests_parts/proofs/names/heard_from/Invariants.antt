use Rattle.std.proofs.Common.{◌≤◌, ℕ}
use Rattle.std.specs.Prelude.{All}
use Rattle.tests_parts.proofs.names.heard_from.Given as goal

-- each came at tick 0
abbrev pub invariant-uids : goal.invariant-uids
invariant-uids l = (now : ℕ) → All (λ arrival. arrival.tick ≤ now) l.cache
