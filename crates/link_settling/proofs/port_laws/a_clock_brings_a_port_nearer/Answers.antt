use Rattle.port_monitor.specs.Histories.{port_after}
use Rattle.link_settling.proofs.Clocks.{known_far}
use Rattle.link_settling.proofs.Ports.{clock_most, clock_nearer, port_sound}
use Rattle.link_settling.proofs.port_laws.a_clock_brings_a_port_nearer.Goals as goal

pub returns-clause-most : goal.returns-clause-most
returns-clause-most c = clock_most

pub returns-clause-nearer : goal.returns-clause-nearer
returns-clause-nearer c = clock_nearer

pub returns-clause-known : goal.returns-clause-known
returns-clause-known c own history none = let p = port_after own history in known_far p.phase p.status (port_sound own history).holding none
