use Rattle.fabric_route_command.specs.Loads.{AreHostsBelow}
use Rattle.fabric_route_command.proofs.loads.count_hosts.Given as goal

abbrev pub invariant-ends : goal.invariant-ends
invariant-ends l = AreHostsBelow l.fabric l.end l.hosts.items
