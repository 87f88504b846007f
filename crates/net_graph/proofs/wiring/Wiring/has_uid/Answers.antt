use Rattle.net_graph.proofs.TableLemmas.{uid_of_switch, uid_of_host}
use Rattle.net_graph.proofs.wiring.Wiring.has_uid.Goals as goal

pub returns-then-is_switch : goal.returns-then-is_switch
returns-then-is_switch c =
    rw (← c.self.view_is) (uid_of_switch (record { switches = c.self.inside.switches.items; links = c.self.inside.links.items; hosts = c.self.inside.hosts.items }) c.args.uid c.is_switch.result (rw c.deref.ensures.value at c.is_switch.ensures.0) c.if-is_switch.true)

pub returns-else-is_switch : goal.returns-else-is_switch
returns-else-is_switch c =
    rw (← c.self.view_is) (uid_of_host (record { switches = c.self.inside.switches.items; links = c.self.inside.links.items; hosts = c.self.inside.hosts.items }) c.args.uid c.is_switch.result c.is_host.result (rw c.deref.ensures.value at c.is_switch.ensures.1) c.if-is_switch.false (rw c.deref-else-is_switch.ensures.value at c.is_host.ensures))
