use Rattle.updown.specs.Order.{AreHeights}
use Rattle.updown.proofs.order.heights_of.Given as goal

-- the heights of the places so far
abbrev pub invariant-places : goal.invariant-places
invariant-places l = AreHeights l.graph l.place l.heights.items
