use Rattle.std.proofs.Common.{ap, length, arith}
use Rattle.net_graph.specs.Wires.{Wires}
use Rattle.net_script.proofs.form.host_in.Goals as goal

pub returns-clause-can : goal.returns-clause-can
returns-clause-can c = record {
  new_name = c.in_ok-new_name.ensures.is_new;
  host = record { uid = c.in_ok-uid.ensures.is_new.0; switch = c.in_ok-s.ensures.range; port_least = c.in_ok-port.ensures.range.0; port_most = c.in_ok-port.ensures.range.1 };
  uid_new = c.in_ok-uid.ensures.is_new.1;
  free = rw (← c.wiring.ensures.wires) c.in_ok-free_port.ensures.free;
  room = omega (arith, ap length c.hosts.ensures.all, ap (λ (w : Wires). length w.hosts) c.wiring-2.ensures.wires);
}
