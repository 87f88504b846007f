use Rattle.updown.specs.Lengths.{AreUpSoFar}
use Rattle.updown.proofs.length.up_lengths.Given as goal

-- the places before i have their lengths
abbrev pub invariant-places : goal.invariant-places
invariant-places l = AreUpSoFar l.graph l.to l.order l.up.items l.i
