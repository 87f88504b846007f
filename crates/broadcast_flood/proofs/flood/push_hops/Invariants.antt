use Rattle.std.proofs.Common.{◌≡◌, ◌++◌, map, take}
use Rattle.broadcast_flood.specs.Floods.{down_at}
use Rattle.broadcast_flood.proofs.flood.push_hops.Given as goal

-- the hops by the ports so far
abbrev pub invariant-ports : goal.invariant-ports
invariant-ports l = l.hops.items ≡ l.initial.hops.items ++ map (down_at l.at) (take l.port-index l.ports)
