use Rattle.net_graph.proofs.TableLemmas.{used_is}
use Rattle.net_graph.proofs.wiring.Wiring.is_used.Goals as goal

pub returns : goal.returns
returns c = rw c.is_some.ensures (used_is c.args.self.now c.args.s c.args.port c.far.result c.far.ensures.far)
