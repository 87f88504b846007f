use Rattle.std.proofs.Common.{◌≡◌, ◌∙◌, sym, refl, Some, arith}
use Rattle.wire_set.proofs.QueueLemmas.{seen, seen_apart}
use Rattle.wire_set.proofs.PopLemmas.{second_found, second_below, second_linked, second_shown, second_slip, pop_first_below}
use Rattle.wire_set.proofs.queue.Queues.pop_second.Goals as goal

pub index-second-requires : goal.index-second-requires
index-second-requires c = omega (arith, (pop_first_below c.args.self.now _ _ _ c.args.q _ c.self.invariant.0 c.self.view_is (omega (arith, c.requires)) c.index-queue.ensures).0)

pub index_mut-requires : goal.index_mut-requires
index_mut-requires c = omega (arith, (second_below c.args.self.now _ _ _ c.args.q _ _ c.self.invariant.0 c.self.view_is c.requires c.index-queue.ensures c.index-second.ensures).1)

pub index-requires : goal.index-requires
index-requires c = omega (arith, (second_below c.args.self.now _ _ _ c.args.q _ _ c.self.invariant.0 c.self.view_is c.requires c.index-queue.ensures c.index-second.ensures).0)

pub index_mut-requires-2 : goal.index_mut-requires-2
index_mut-requires-2 c = omega (arith, (second_below c.args.self.now _ _ _ c.args.q _ _ c.self.invariant.0 c.self.view_is c.requires c.index-queue.ensures c.index-second.ensures).2)

pub unwrap-requires : goal.unwrap-requires
unwrap-requires c =
    let there : c.take-slip.result ≡ Some c.index-second.result.now
    = c.take-slip.ensures.value ∙ second_found c.args.self.now _ _ _ c.args.q _ _ _ c.self.invariant.0 c.self.view_is c.requires c.index-queue.ensures c.index-second.ensures c.index_mut.ensures.value in
    rw there refl

pub invariant_of-self : goal.invariant_of-self
invariant_of-self c = (
  second_linked c.args.self.now _ _ _ c.args.q _ _ c.index_mut.result.now _ _ _
      (record { linked = c.self.invariant.0; view = c.self.view_is; two = c.requires; read = c.index-queue.ensures; second_is = c.index-second.ensures; found_is = c.index_mut.ensures.value; third_is = c.index.ensures; first = c.shortened.ensures.first; only = c.shortened.ensures.only; last = c.shortened.ensures.last; count = c.shortened.ensures.count }) c.take-slip.ensures.after,
  c.self.invariant.1,
  c.self.invariant.2,
)

pub returns-clause-slip : goal.returns-clause-slip
returns-clause-slip c =
    (second_slip c.args.self.now _ _ _ c.args.q c.index-queue.result.now c.index-second.result.now c.index_mut.result.now c.index.result.now c.shortened.result _
    (record { linked = c.self.invariant.0; view = c.self.view_is; two = c.requires; read = c.index-queue.ensures; second_is = c.index-second.ensures; found_is = c.index_mut.ensures.value; third_is = c.index.ensures; first = c.shortened.ensures.first; only = c.shortened.ensures.only; last = c.shortened.ensures.last; count = c.shortened.ensures.count }) (sym c.take-slip.ensures.value ∙ c.unwrap.ensures)).0

pub returns-clause-rest : goal.returns-clause-rest
returns-clause-rest c =
    second_shown c.args.self.now _ _ _ c.args.q _ c.index-second.result.now c.index_mut.result.now _ _
    (record { linked = c.self.invariant.0; view = c.self.view_is; two = c.requires; read = c.index-queue.ensures; second_is = c.index-second.ensures; found_is = c.index_mut.ensures.value; third_is = c.index.ensures; first = c.shortened.ensures.first; only = c.shortened.ensures.only; last = c.shortened.ensures.last; count = c.shortened.ensures.count })

pub returns-clause-apart : goal.returns-clause-apart
returns-clause-apart c = seen_apart _ _ _ _ c.self.invariant.0 (seen _ _ _ c.self.view_is)

pub returns-clause-place : goal.returns-clause-place
returns-clause-place c =
    (second_slip c.args.self.now _ _ _ c.args.q c.index-queue.result.now c.index-second.result.now c.index_mut.result.now c.index.result.now c.shortened.result _
    (record { linked = c.self.invariant.0; view = c.self.view_is; two = c.requires; read = c.index-queue.ensures; second_is = c.index-second.ensures; found_is = c.index_mut.ensures.value; third_is = c.index.ensures; first = c.shortened.ensures.first; only = c.shortened.ensures.only; last = c.shortened.ensures.last; count = c.shortened.ensures.count }) (sym c.take-slip.ensures.value ∙ c.unwrap.ensures)).1
