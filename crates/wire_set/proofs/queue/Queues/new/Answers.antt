use Rattle.std.proofs.Common.{arith}
use Rattle.wire_set.proofs.AppendLemmas.{start_linked, start_shown}
use Rattle.wire_set.proofs.queue.Queues.new.Goals as goal

pub invariant_of-result : goal.invariant_of-result
invariant_of-result c = (
  start_linked _ _ _ _ _ c.in_ok-with_capacity.ensures.items c.in_ok-with_capacity-2.ensures.items c.requires c.in_ok-empty_queues.ensures,
  omega (arith, c.in_ok-with_capacity.ensures.exact),
  omega (arith, c.in_ok-with_capacity-2.ensures.exact),
)

pub returns : goal.returns
returns c = start_shown _ _ _ _ c.in_ok-empty_queues.ensures
