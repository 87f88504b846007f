use Rattle.std.proofs.Common.{length, arith}
use Rattle.net_graph.proofs.FarLemmas.{far_range}
use Rattle.net_graph.proofs.level.has_neighbour_at.Goals as goal

pub ports-init : goal.ports-init
ports-init c = λ p y q low e _.
    let r = far_range (length c.args.wiring.now.switches) c.args.wiring.now.links c.args.x p y q c.requires.links e in
    absurd (omega arith)

pub returns : goal.returns
returns c = (
  λ t. absurd (let f = t in cc),
  λ h.
      let r = far_range (length c.args.wiring.now.switches) c.args.wiring.now.links c.args.x h.1.0 h.0 h.1.1 c.requires.links h.1.2 in
      absurd (c.ports.invariant h.1.0 h.0 h.1.1 (omega arith) h.1.2 h.2),
)
