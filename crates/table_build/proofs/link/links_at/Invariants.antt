use Rattle.table_build.specs.Links.{AreLinksBelow}
use Rattle.table_build.proofs.link.links_at.Given as goal

-- the links at the ports so far
abbrev pub invariant-ports : goal.invariant-ports
invariant-ports l = AreLinksBelow l.graph l.y l.port l.links
