use Rattle.common_graph.proofs.BitLemmas.{cleared_is, cleared_less}
use Rattle.common_graph.proofs.bits.without.Goals as goal

pub returns-clause-bits : goal.returns-clause-bits
returns-clause-bits c = cleared_is c.args.word c.args.bit c.ranges.word.fits c.requires.below

pub returns-clause-less : goal.returns-clause-less
returns-clause-less c = cleared_less c.args.word c.args.bit c.requires.below c.requires.has
