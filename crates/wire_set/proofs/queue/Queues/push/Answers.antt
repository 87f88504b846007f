use Rattle.std.proofs.Common.{ℕ, ◌<◌, ◌∙◌, ◌∷◌, ◌++◌, [], ap, subst, arith, Some, slice_set}
use Rattle.wire_set.specs.Queues.{IsLinked, queue_at, with_queue}
use Rattle.wire_set.proofs.QueueLemmas.{seen}
use Rattle.wire_set.proofs.ReachLemmas.{reached_by}
use Rattle.wire_set.proofs.AppendLemmas.{Appends, append_linked, append_shown}
use Rattle.wire_set.proofs.queue.Queues.push.Goals as goal
use Rattle.wire_set.proofs.queue.Queues.push.Goals.{After-appended, After-number-number}

-- the slip is new to the queue, and the queue after it is the one that is written
appends : (c : goal.After-appended) → Appends c.args.self.now c.reach.new.slips.items c.reach.new.next.items c.self.inside.queues.items c.args.q c.number-number.result c.place_before.result c.index-queue.result.now c.appended.result c.self.inside.places
appends c =
    let r = reached_by _ _ _ _ _ _ c.number-number.result c.self.invariant.0 c.self.view_is (omega (arith, c.requires.place, c.number-number.ensures)) c.reach.ensures.slips c.reach.ensures.next in
    record {
      linked = r.0;
      view = r.1;
      below = c.requires.q;
      there = c.reach.ensures.there.1;
      room = c.requires.room;
      fresh = λ a i few same. c.requires.new a i few (same ∙ c.number-number.ensures);
      read = c.index-queue.ensures;
      none = c.place_before.ensures.empty;
      some = c.place_before.ensures.some;
      first = c.appended.ensures.first;
      kept = c.appended.ensures.kept;
      last = c.appended.ensures.last;
      count = c.appended.ensures.count;
    }

number_below : (c : goal.After-number-number) → c.number-number.result < c.self.inside.places
number_below c = omega (arith, c.requires.place, (seen _ _ _ c.self.view_is).places, c.number-number.ensures)

pub reach-requires-clause-size : goal.reach-requires-clause-size
reach-requires-clause-size c = c.self.invariant.0.size

pub reach-requires-clause-slips : goal.reach-requires-clause-slips
reach-requires-clause-slips c = omega (arith, number_below (goal.at.reach-requires-clause-slips c).After-number-number, c.self.invariant.1)

pub reach-requires-clause-next : goal.reach-requires-clause-next
reach-requires-clause-next c = omega (arith, number_below (goal.at.reach-requires-clause-next c).After-number-number, c.self.invariant.2)

pub invariant_of-self : goal.invariant_of-self
invariant_of-self c = (
  subst (λ (y : ℕ). IsLinked (slice_set c.reach.new.slips.items c.number-number.result (Some y)) (slice_set c.reach.new.next.items c.place_before.result c.number-number.result) (slice_set c.self.inside.queues.items c.args.q c.appended.result) c.self.inside.places)
      c.number-number.ensures
      (append_linked _ _ _ _ _ _ _ _ _ (appends (goal.at.invariant_of-self c).After-appended)),
  omega (arith, c.self.invariant.1, c.reach.ensures.room.0),
  omega (arith, c.self.invariant.2, c.reach.ensures.room.1),
)

pub returns : goal.returns
returns c =
    append_shown _ _ _ _ _ _ _ _ _ (appends (goal.at.returns c).After-appended)
    ∙ ap (λ (y : ℕ). with_queue c.args.q (queue_at c.args.self.now c.args.q ++ y ∷ []) c.args.self.now) c.number-number.ensures
