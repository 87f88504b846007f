use Rattle.std.proofs.Common.{arith}
use Rattle.updown.proofs.LeastLemmas.{onward_next, onward_none, behind_most}
use Rattle.updown.proofs.length.length_from.Goals as goal

pub returns-in_err-left : goal.returns-in_err-left
returns-in_err-left c = rw c.from_residual.ensures (onward_none c.args.graph.now c.args.up.now c.args.down.now c.args.to c.args.x c.least_left.result c.if-x-to.false c.least_left.ensures c.in_err-left.was)

pub overflow_add-result : goal.overflow_add-result
overflow_add-result c =
    let most = behind_most c.args.graph.now c.args.up.now c.args.down.now c.args.x c.in_ok-left.ensures.0.0 c.in_ok-left.left c.requires.up_most c.requires.down_most c.in_ok-left.ensures.0.1 in
    omega arith

pub returns : goal.returns
returns c = onward_next c.args.graph.now c.args.up.now c.args.down.now c.args.to c.args.x c.least_left.result c.in_ok-left.left c.if-x-to.false c.least_left.ensures c.in_ok-left.was
