use Rattle.std.proofs.Common.{◌≡◌, ◌≤◌, take, length, All}
use Rattle.port_monitor.specs.Ports.{links_from}
use Rattle.port_monitor.proofs.monitor.links_of.Given as goal

-- the links of the ports so far
abbrev pub invariant-ports : goal.invariant-ports
invariant-ports l = record {
  said : l.links ≡ links_from 1 (take l.i l.ports);
  below : All (λ k. k.port ≤ l.i) l.links;
  few : length l.links ≤ l.i;
}
