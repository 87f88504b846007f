use Rattle.an_base.proofs.PortSetLemmas.{IsListed}
use Rattle.an_base.proofs.row.ports_in.Given as goal

-- those that are not left, one after the other
abbrev pub invariant-ports : goal.invariant-ports
invariant-ports l = IsListed l.set l.left l.ports

abbrev pub decreases-ports : goal.decreases-ports
decreases-ports l = l.left
