use Rattle.wire_set.proofs.WireLemmas.{port_is}
use Rattle.wire_set.proofs.law.ports_are_those_of_the_wiring.Goals as goal

pub returns : goal.returns
returns c = port_is
