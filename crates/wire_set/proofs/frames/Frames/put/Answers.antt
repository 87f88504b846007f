use Rattle.std.proofs.Common.{arith}
use Rattle.wire_set.proofs.StoreLemmas.{put_by, few_frames, seen_queues}
use Rattle.wire_set.proofs.frames.Frames.put.Goals as goal

pub push-requires-clause-room : goal.push-requires-clause-room
push-requires-clause-room c = few_frames _ _ c.args.q c.self.invariant (omega (arith, c.requires.q, seen_queues _ _ _ c.self.view_is)) (omega (arith, c.in-Ok.ensures.room, c.requires.least))

pub invariant_of-self : goal.invariant_of-self
invariant_of-self c = (put_by c.args.self.now _ _ _ _ c.args.q _ c.args.bytes.now c.self.view_is c.self.invariant c.in-Ok.ensures.new.0 c.in-Ok.ensures.new.1 c.requires.least c.in-Ok.ensures.room c.requires.q c.in-Ok.ensures.put c.push.ensures).0

pub returns-in-Ok-clause-ok : goal.returns-in-Ok-clause-ok
returns-in-Ok-clause-ok c = (put_by c.args.self.now _ _ _ _ c.args.q _ c.args.bytes.now c.self.view_is c.self.invariant c.in-Ok.ensures.new.0 c.in-Ok.ensures.new.1 c.requires.least c.in-Ok.ensures.room c.requires.q c.in-Ok.ensures.put c.push.ensures).1
