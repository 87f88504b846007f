use Rattle.table_build.specs.Links.{AreLinks}
use Rattle.table_build.proofs.link.push_all.Given as goal

-- the links of the places so far
abbrev pub invariant-places : goal.invariant-places
invariant-places l = AreLinks l.graph l.y l.links.items
