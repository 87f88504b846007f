use Rattle.link_settling.proofs.Links.{down_is_dead}
use Rattle.link_settling.proofs.port_laws.a_port_that_is_down_is_dead.Goals as goal

pub returns : goal.returns
returns c = down_is_dead
