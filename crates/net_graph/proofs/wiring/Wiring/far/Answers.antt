use Rattle.net_graph.proofs.TableLemmas.{far_meaning, far_within}
use Rattle.net_graph.proofs.wiring.Wiring.far.Goals as goal

pub returns-clause-meaning : goal.returns-clause-meaning
returns-clause-meaning c =
    rw (c.cell.ensures, c.deref.ensures.value, ← c.self.view_is, c.self.invariant.cells c.args.s c.args.port) (far_meaning (record { switches = c.self.inside.switches.items; links = c.self.inside.links.items; hosts = c.self.inside.hosts.items }) c.args.s c.args.port)

pub returns-clause-range : goal.returns-clause-range
returns-clause-range c =
    rw (c.cell.ensures, c.deref.ensures.value, ← c.self.view_is, c.self.invariant.cells c.args.s c.args.port) (far_within (record { switches = c.self.inside.switches.items; links = c.self.inside.links.items; hosts = c.self.inside.hosts.items }) c.args.s c.args.port c.self.invariant.wired)
