use Rattle.wire_set.proofs.StoreLemmas.{start_by}
use Rattle.wire_set.proofs.frames.Frames.new.Goals as goal

pub invariant_of-result : goal.invariant_of-result
invariant_of-result c = (start_by _ _ c.args.queues c.args.blocks c.in_ok-new.ensures c.in_ok-new-2.ensures).0

pub returns : goal.returns
returns c = (start_by _ _ c.args.queues c.args.blocks c.in_ok-new.ensures c.in_ok-new-2.ensures).1
