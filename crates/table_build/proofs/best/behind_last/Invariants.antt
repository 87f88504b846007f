use Rattle.std.proofs.Common.{◌≢◌, ◌<◌, ◌≤◌, ℕ, length}
use Rattle.updown.specs.Order.{place_at}
use Rattle.table_build.proofs.best.behind_last.Given as goal

-- it is at none of the positions from i on
abbrev pub invariant-places : goal.invariant-places
invariant-places l = (l.i ≤ length l.order) × ((k : ℕ) → l.i ≤ k → k < length l.order → place_at l.order k ≢ l.place)

abbrev pub decreases-places : goal.decreases-places
decreases-places l = l.i
