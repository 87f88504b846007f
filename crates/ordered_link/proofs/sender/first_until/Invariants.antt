use Rattle.std.proofs.Common.{◌<◌, ℕ, slice_index_or}
use Rattle.ordered_link.proofs.sender.first_until.Given as goal

abbrev pub invariant-ticks : goal.invariant-ticks
invariant-ticks l = (j : ℕ) → j < l.i → l.latest < slice_index_or l.ticks j 0
