use Rattle.net_graph.proofs.TableLemmas.{switch_kept}
use Rattle.net_graph.proofs.wiring.Wiring.add_switch.Goals as goal

pub invariant_of-self-in_default : goal.invariant_of-self-in_default
invariant_of-self-in_default c =
    rw (c.in_default.ensures.items, c.in_ok-push.ensures.items)
    (switch_kept (record { switches = c.self.inside.switches.items; links = c.self.inside.links.items; hosts = c.self.inside.hosts.items }) c.args.switch c.self.inside.rows.items c.self.invariant (rw (← c.self.view_is) at c.requires.room) c.requires.switch (rw (← c.self.view_is) at c.requires.new))
