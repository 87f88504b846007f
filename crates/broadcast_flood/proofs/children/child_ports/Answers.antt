use Rattle.std.proofs.Common.{◌≡◌, subst, ℕ, arith}
use Rattle.broadcast_flood.proofs.ChildLemmas.{ArePortsBelow, no_ports, one_port, other_port, all_ports}
use Rattle.broadcast_flood.proofs.children.child_ports.Goals as goal
use Rattle.broadcast_flood.proofs.children.child_ports.Goals.{then-leads_to_child, else-leads_to_child}

pub ports-init : goal.ports-init
ports-init c = rw c.new-ports.ensures (no_ports c.args.graph.now c.args.x c.requires)

pub ports-preserved : goal.ports-preserved
ports-preserved c =
    let es = c.args.graph.now in
    elim c.if-leads_to_child.branch [
      | then-leads_to_child w ↦ rw (w.ports-is, w.push.ensures) (one_port es c.args.x c.ports.port c.ports.ports c.ports.invariant (c.leads_to_child.ensures.0 w.if-leads_to_child.true))
      | else-leads_to_child w ↦ rw w.ports-is (other_port es c.args.x c.ports.port c.ports.ports c.ports.invariant (λ down. absurd (let passed = c.leads_to_child.ensures.1 down in let failed = w.if-leads_to_child.false in cc)))
    ]

pub returns : goal.returns
returns c =
    let all : c.ports.port ≡ 13 = omega arith in
    all_ports c.args.graph.now c.args.x c.ports.ports c.requires (subst (λ (n : ℕ). ArePortsBelow c.args.graph.now c.args.x n c.ports.ports) all c.ports.invariant)
