use Rattle.broadcast_flood.specs.Kept.{AreChildren}
use Rattle.broadcast_flood.proofs.children.children_of.Given as goal

-- the ports of the members so far
abbrev pub invariant-places : goal.invariant-places
invariant-places l = AreChildren l.graph l.x l.children.items
