use Rattle.an_base.proofs.PortSetLemmas.{empty_is}
use Rattle.an_base.proofs.row.Exits.is_empty.Goals as goal

pub returns : goal.returns
returns c = rw (← c.self.view_is) (empty_is c.self.inside.set c.self.invariant)
