use Rattle.std.proofs.lemmas.Nat.{le_or_l}
use Rattle.fabric_routes.proofs.WordLemmas.{joined_is, joined_more}
use Rattle.fabric_routes.proofs.word.joined.Goals as goal

pub returns-clause-bits : goal.returns-clause-bits
returns-clause-bits c = joined_is c.args.gone c.args.fresh

pub returns-clause-more : goal.returns-clause-more
returns-clause-more c = joined_more c.args.gone c.args.fresh c.requires.some c.ranges.fresh.fits (le_or_l c.args.gone c.args.fresh) c.requires.apart
