use Rattle.std.proofs.Common.{◌≡◌, replicate}
use Rattle.wire_set.specs.Queues.{empty}
use Rattle.wire_set.proofs.queue.empty_queues.Given as goal

abbrev pub invariant-queues : goal.invariant-queues
invariant-queues l = l.all.items ≡ replicate l.counter empty
