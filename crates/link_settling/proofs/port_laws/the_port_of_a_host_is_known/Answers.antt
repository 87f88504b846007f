use Rattle.link_settling.proofs.Links.{host_from}
use Rattle.link_settling.proofs.port_laws.the_port_of_a_host_is_known.Goals as goal

pub returns : goal.returns
returns c = host_from
