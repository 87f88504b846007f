use Rattle.an_base.proofs.PortSetLemmas.{cleared_is, cleared_less}
use Rattle.an_base.proofs.port_set.without.Goals as goal

pub returns : goal.returns
returns c = record { ports = cleared_is c.args.set c.args.port c.ranges.set.fits c.requires.below; less = cleared_less c.args.set c.args.port c.requires.below c.requires.has }
