use Rattle.fcfc_router.proofs.BitLemmas.{lowest_is}
use Rattle.fcfc_router.proofs.router.lowest_of.Goals as goal

pub returns : goal.returns
returns c = let h = lowest_is c.args.set c.requires c.ranges.set.fits in record { lowest = h.0; below = h.1 }
