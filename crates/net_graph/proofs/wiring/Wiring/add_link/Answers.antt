use Rattle.net_graph.proofs.TableLemmas.{link_kept}
use Rattle.net_graph.proofs.wiring.Wiring.add_link.Goals as goal

pub invariant_of-self-2 : goal.invariant_of-self-2
invariant_of-self-2 c =
    rw c.in_ok-push.ensures.items
    (link_kept (record { switches = c.self.inside.switches.items; links = c.self.inside.links.items; hosts = c.self.inside.hosts.items }) c.args.link c.self.inside.rows.items c.put.new.rows.items c.put-2.new.rows.items c.self.invariant (rw (← c.self.view_is) at c.requires.link) (rw (← c.self.view_is) at c.requires.a_free) (rw (← c.self.view_is) at c.requires.b_free) c.requires.apart c.put.ensures c.put-2.ensures)
