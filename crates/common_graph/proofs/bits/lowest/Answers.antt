use Rattle.common_graph.proofs.BitLemmas.{lowest_is}
use Rattle.common_graph.proofs.bits.lowest.Goals as goal

pub returns-clause-has : goal.returns-clause-has
returns-clause-has c = (lowest_is c.args.word c.requires c.ranges.word.fits).1

pub returns-clause-lowest : goal.returns-clause-lowest
returns-clause-lowest c = (lowest_is c.args.word c.requires c.ranges.word.fits).2
