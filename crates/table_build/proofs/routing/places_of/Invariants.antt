use Rattle.table_build.specs.Routing.{ArePlaces}
use Rattle.table_build.proofs.routing.places_of.Given as goal

-- the places so far
abbrev pub invariant-places : goal.invariant-places
invariant-places l = ArePlaces l.numbers l.i l.places
