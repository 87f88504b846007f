use Rattle.std.proofs.Common.{◌≢◌, ◌-◌, ◌<◌, ◌≤◌, ℕ, length}
use Rattle.updown.specs.Order.{place_at}
use Rattle.table_build.proofs.best.first_of.Given as goal

-- it is at none of the positions before i
abbrev pub invariant-places : goal.invariant-places
invariant-places l = (l.i ≤ length l.order) × ((k : ℕ) → k < l.i → place_at l.order k ≢ l.place)

abbrev pub decreases-places : goal.decreases-places
decreases-places l = length l.order - l.i
