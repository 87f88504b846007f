use Rattle.net_script.proofs.form.link_in.Goals as goal

pub returns-clause-can : goal.returns-clause-can
returns-clause-can c = record {
  link = record { a_below = c.in_ok-a.ensures.range; b_below = c.in_ok-b.ensures.range; a_port_least = c.in_ok-a_port.ensures.range.0; a_port_most = c.in_ok-a_port.ensures.range.1; b_port_least = c.in_ok-b_port.ensures.range.0; b_port_most = c.in_ok-b_port.ensures.range.1 };
  apart = c.in_ok-free_link.ensures.apart;
  a_free = rw (← c.wiring.ensures.wires) c.in_ok-free_link.ensures.a_free;
  b_free = rw (← c.wiring.ensures.wires) c.in_ok-free_link.ensures.b_free;
}
