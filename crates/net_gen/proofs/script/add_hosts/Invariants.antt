use Rattle.std.proofs.Common.{◌≡◌, []}
use Rattle.net_gen.specs.Generated.{made_of}
use Rattle.net_gen.proofs.script.add_hosts.Given as goal

-- the hosts so far
abbrev pub invariant-places : goal.invariant-places
invariant-places l = l.script ≡ made_of l.count l.fn.script.wires.links l.place []
