use Rattle.std.proofs.Common.{arith}
use Rattle.wire_set.proofs.WireLemmas.{begin_by}
use Rattle.wire_set.proofs.wires.WireSet.begin.Goals as goal

pub invariant_of-result : goal.invariant_of-result
invariant_of-result c = (begin_by c.args.wiring.now _ _ c.len.result c.args.blocks c.in_ok-sides.ensures.sides (omega (arith, c.len.ensures)) c.in_ok-frames.ensures c.in_ok-sides.ensures.far).0

pub returns : goal.returns
returns c = (begin_by c.args.wiring.now _ _ c.len.result c.args.blocks c.in_ok-sides.ensures.sides (omega (arith, c.len.ensures)) c.in_ok-frames.ensures c.in_ok-sides.ensures.far).1
