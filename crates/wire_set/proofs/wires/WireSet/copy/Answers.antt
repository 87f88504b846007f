use Rattle.std.proofs.Common.{arith}
use Rattle.wire_set.proofs.WireLemmas.{copied_by, what_by}
use Rattle.wire_set.proofs.wires.WireSet.copy.Goals as goal

pub returns-clause-copied : goal.returns-clause-copied
returns-clause-copied c =
    copied_by c.args.self.now _ _ c.args.wire _ c.args.bytes.now c.index-side.result.now c.self.view_is c.requires.link c.index-side.ensures (omega (arith, c.if-side-eq0.false)) c.far_place.ensures _ c.put_into.ensures.put

pub returns-clause-what : goal.returns-clause-what
returns-clause-what c =
    what_by c.args.self.now _ _ c.args.wire _ c.args.bytes.now c.index-side.result.now c.self.view_is c.requires.link c.index-side.ensures (omega (arith, c.if-side-eq0.false)) c.far_place.ensures _ c.put_into.ensures.what
