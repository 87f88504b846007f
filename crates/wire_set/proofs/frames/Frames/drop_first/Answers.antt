use Rattle.wire_set.proofs.StoreLemmas.{dropped_by}
use Rattle.wire_set.proofs.frames.Frames.drop_first.Goals as goal

pub invariant_of-self : goal.invariant_of-self
invariant_of-self c = (dropped_by c.args.self.now _ _ _ _ c.args.q _ c.self.view_is c.self.invariant c.pop-slip.ensures.apart c.requires c.pop-slip.ensures.slip c.pop-slip.ensures.rest c.free.ensures).0

pub returns : goal.returns
returns c = (dropped_by c.args.self.now _ _ _ _ c.args.q _ c.self.view_is c.self.invariant c.pop-slip.ensures.apart c.requires c.pop-slip.ensures.slip c.pop-slip.ensures.rest c.free.ensures).1
