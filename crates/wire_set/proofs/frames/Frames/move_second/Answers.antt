use Rattle.std.proofs.Common.{arith}
use Rattle.wire_set.proofs.StoreLemmas.{second_by, second_fresh, frame_some}
use Rattle.wire_set.proofs.frames.Frames.move_second.Goals as goal

pub push-requires-clause-new : goal.push-requires-clause-new
push-requires-clause-new c = second_fresh c.args.self.now c.self.inside.region _ _ c.args.from _ c.self.view_is c.pop_second-slip.ensures.apart c.requires.two c.pop_second-slip.ensures.slip c.pop_second-slip.ensures.rest

pub invariant_of-self : goal.invariant_of-self
invariant_of-self c = (second_by c.args.self.now _ c.self.inside.queues _ _ c.args.from c.args.to _ c.self.view_is c.self.invariant c.pop_second-slip.ensures.apart c.requires.two c.requires.to c.pop_second-slip.ensures.slip c.pop_second-slip.ensures.rest c.push.ensures).0

pub returns-clause-moved : goal.returns-clause-moved
returns-clause-moved c = (second_by c.args.self.now _ c.self.inside.queues _ _ c.args.from c.args.to _ c.self.view_is c.self.invariant c.pop_second-slip.ensures.apart c.requires.two c.requires.to c.pop_second-slip.ensures.slip c.pop_second-slip.ensures.rest c.push.ensures).1

pub returns-clause-least : goal.returns-clause-least
returns-clause-least c = frame_some c.args.self.now _ _ c.args.from 1 _ _ c.self.view_is c.self.invariant (omega (arith, c.requires.two)) c.pop_second-slip.ensures.slip c.read.ensures
