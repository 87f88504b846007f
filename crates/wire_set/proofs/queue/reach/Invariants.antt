use Rattle.std.proofs.Common.{◌≡◌, ◌≤◌, ◌+◌, ◌-◌, ◌++◌, None, length, replicate}
use Rattle.wire_set.proofs.queue.reach.Given as goal

-- so many places are there
abbrev pub invariant-places : goal.invariant-places
invariant-places l = record {
  least : length l.fn.next.items ≤ l.counter;
  most : l.counter - length l.fn.next.items ≤ l.number + 1 - length l.fn.next.items;
  size : (length l.slips.items ≡ l.counter) × (length l.next.items ≡ l.counter);
  slips : l.slips.items ≡ l.fn.slips.items ++ replicate (l.counter - length l.fn.next.items) None;
  next : l.next.items ≡ l.fn.next.items ++ replicate (l.counter - length l.fn.next.items) 0;
  room : (l.slips.cap ≡ l.fn.slips.cap) × (l.next.cap ≡ l.fn.next.cap);
}
