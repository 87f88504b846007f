use Rattle.an_base.proofs.PortSetLemmas.{lowest_is}
use Rattle.an_base.proofs.port_set.lowest.Goals as goal

pub returns : goal.returns
returns c = let h = lowest_is c.args.set c.requires c.ranges.set.fits in record { has = h.0; lowest = h.1; below = h.2 }
