use Rattle.updown.specs.Routes.{IsLeast}
use Rattle.updown.specs.Lengths.{left_of}
use Rattle.updown.proofs.LeastLemmas.{Below}
use Rattle.updown.proofs.length.least_left.Given as goal

-- the least that is left after the ports so far
abbrev pub invariant-ports : goal.invariant-ports
invariant-ports l = IsLeast (Below (left_of l.graph l.up l.down l.x) l.port) l.best
