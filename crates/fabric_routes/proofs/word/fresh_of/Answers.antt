use Rattle.fabric_routes.proofs.WordLemmas.{fresh_is}
use Rattle.fabric_routes.proofs.word.fresh_of.Goals as goal

pub returns : goal.returns
returns c = fresh_is c.args.word c.args.gone c.ranges.word.fits c.ranges.gone.fits
