use Rattle.std.proofs.Common.{None}
use Rattle.table_build.specs.Exits.{IsExitOf}
use Rattle.table_build.proofs.ExitLemmas.{best_ports, no_port}
use Rattle.table_build.proofs.exit.exits.Goals as goal

pub returns-in-None : goal.returns-in-None
returns-in-None c = rw (c.new.ensures, c.in-None.is) (no_port (IsExitOf None) (λ p no. no))

pub returns-in-Some : goal.returns-in-Some
returns-in-Some c = rw (c.of_set.ensures, c.in-Some.is) (best_ports c.in-Some.best)
