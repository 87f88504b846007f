use Rattle.an_base.proofs.PortSetLemmas.{alone_is, alone_same}
use Rattle.an_base.proofs.row.Exits.of_set.Goals as goal

pub invariant_of-result : goal.invariant_of-result
invariant_of-result c = alone_is c.args.set

pub returns : goal.returns
returns c = alone_same c.args.set
