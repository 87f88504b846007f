use Rattle.std.proofs.Common.{◌∙◌, ap, arith}
use Rattle.wire_set.specs.Frames.{drop_first}
use Rattle.wire_set.proofs.StoreLemmas.{clear_none, clear_more, clear_all, clear_left}
use Rattle.wire_set.proofs.frames.Frames.clear.Goals as goal

pub frames-init : goal.frames-init
frames-init c = clear_none c.args.q c.args.self.now

pub frames-preserved : goal.frames-preserved
frames-preserved c =
    c.drop_first.ensures ∙ ap (drop_first c.args.q) c.frames.invariant
    ∙ clear_more c.frames.counter c.args.q c.args.self.now c.requires (omega (arith, c.frames-test.true, c.len-end.ensures.len))

pub drop_first-requires : goal.drop_first-requires
drop_first-requires c = clear_left c.frames.counter c.args.q c.len-end.result c.args.self.now c.frames.self c.frames.invariant c.requires c.len-end.ensures.len c.frames-test.true

pub returns : goal.returns
returns c = c.frames.invariant ∙ clear_all c.args.q c.frames.counter c.args.self.now (omega (arith, c.frames-test.false, c.frames.auto, c.len-end.ensures.len))
