use Rattle.std.proofs.Common.{◌≡◌, length, arith}
use Rattle.net_graph.proofs.TableLemmas.{host_kept}
use Rattle.net_graph.proofs.wiring.Wiring.add_host.Goals as goal

pub invariant_of-self-2 : goal.invariant_of-self-2
invariant_of-self-2 c =
    let place : c.len-place.result ≡ length c.self.inside.hosts.items = omega (arith, c.len-place.ensures, c.self.inside.hosts.ok.0) in
    rw c.in_ok-push.ensures.items
    (host_kept (record { switches = c.self.inside.switches.items; links = c.self.inside.links.items; hosts = c.self.inside.hosts.items }) c.args.host c.self.inside.rows.items c.put.new.rows.items c.self.invariant (rw (← c.self.view_is) at c.requires.room) (rw (← c.self.view_is) at c.requires.host) (rw (← c.self.view_is) at c.requires.new) (rw (← c.self.view_is) at c.requires.free) (rw place at c.put.ensures))
