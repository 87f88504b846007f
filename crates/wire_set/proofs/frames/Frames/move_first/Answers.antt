use Rattle.wire_set.proofs.StoreLemmas.{first_by, first_fresh, frame_some}
use Rattle.wire_set.proofs.frames.Frames.move_first.Goals as goal

pub push-requires-clause-new : goal.push-requires-clause-new
push-requires-clause-new c = first_fresh c.args.self.now c.self.inside.region _ _ c.args.from _ c.self.view_is c.pop-slip.ensures.apart c.requires.some c.pop-slip.ensures.slip c.pop-slip.ensures.rest

pub invariant_of-self : goal.invariant_of-self
invariant_of-self c = (first_by c.args.self.now _ c.self.inside.queues _ _ c.args.from c.args.to _ c.self.view_is c.self.invariant c.pop-slip.ensures.apart c.requires.some c.requires.to c.pop-slip.ensures.slip c.pop-slip.ensures.rest c.push.ensures).0

pub returns-clause-moved : goal.returns-clause-moved
returns-clause-moved c = (first_by c.args.self.now _ c.self.inside.queues _ _ c.args.from c.args.to _ c.self.view_is c.self.invariant c.pop-slip.ensures.apart c.requires.some c.requires.to c.pop-slip.ensures.slip c.pop-slip.ensures.rest c.push.ensures).1

pub returns-clause-least : goal.returns-clause-least
returns-clause-least c = frame_some c.args.self.now _ _ c.args.from 0 _ _ c.self.view_is c.self.invariant c.requires.some c.pop-slip.ensures.slip c.read.ensures
