use Rattle.table_build.specs.Tables.{AreWays}
use Rattle.table_build.proofs.way.push_ways.Given as goal

-- the ways to the numbers so far
abbrev pub invariant-numbers : goal.invariant-numbers
invariant-numbers l = AreWays l.graph l.numbers l.any l.x l.number l.ways.items
