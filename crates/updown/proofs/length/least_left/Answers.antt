use Rattle.std.proofs.Common.{◌≡◌, ℕ, subst, arith}
use Rattle.updown.specs.Routes.{IsLeast}
use Rattle.updown.specs.Lengths.{left_of}
use Rattle.updown.proofs.LeastLemmas.{Below, least_port, least_all}
use Rattle.updown.proofs.length.least_left.Goals as goal

pub ports-preserved : goal.ports-preserved
ports-preserved c =
    rw c.lesser-best.ensures (least_port (left_of c.args.graph.now c.args.up.now c.args.down.now c.args.x) c.ports.port c.ports.best c.left_after.result c.ports.invariant c.left_after.ensures.left)

pub returns : goal.returns
returns c =
    let all : c.ports.port ≡ 13 = omega arith in
    least_all c.args.graph.now c.args.up.now c.args.down.now c.args.x c.ports.best c.requires (subst (λ (n : ℕ). IsLeast (Below (left_of c.args.graph.now c.args.up.now c.args.down.now c.args.x) n) c.ports.best) all c.ports.invariant)
