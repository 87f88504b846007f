use Rattle.std.proofs.Common.{◌≤◌, length}
use Rattle.updown.specs.Lengths.{AreDownSoFar}
use Rattle.updown.proofs.length.down_lengths.Given as goal

-- the places from i on have their lengths
abbrev pub invariant-places : goal.invariant-places
invariant-places l = AreDownSoFar l.graph l.to l.order l.down.items l.i × (l.i ≤ length l.order)

abbrev pub decreases-places : goal.decreases-places
decreases-places l = l.i
