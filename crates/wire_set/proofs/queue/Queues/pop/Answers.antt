use Rattle.std.proofs.Common.{◌≡◌, ◌∙◌, sym, refl, Some, arith}
use Rattle.wire_set.proofs.QueueLemmas.{seen, seen_apart}
use Rattle.wire_set.proofs.PopLemmas.{pop_found, pop_first_below, pop_linked, pop_shown, pop_slip}
use Rattle.wire_set.proofs.queue.Queues.pop.Goals as goal

pub index_mut-requires : goal.index_mut-requires
index_mut-requires c = omega (arith, (pop_first_below c.args.self.now _ _ _ c.args.q _ c.self.invariant.0 c.self.view_is c.requires c.index-queue.ensures).1)

pub index-requires : goal.index-requires
index-requires c = omega (arith, (pop_first_below c.args.self.now _ _ _ c.args.q _ c.self.invariant.0 c.self.view_is c.requires c.index-queue.ensures).0)

pub unwrap-requires : goal.unwrap-requires
unwrap-requires c =
    let there : c.take-slip.result ≡ Some c.index-queue.result.now.first
    = c.take-slip.ensures.value ∙ pop_found c.args.self.now _ _ _ c.args.q _ _ c.self.invariant.0 c.self.view_is c.requires c.index-queue.ensures c.index_mut.ensures.value in
    rw there refl

pub invariant_of-self : goal.invariant_of-self
invariant_of-self c = (
  pop_linked c.args.self.now _ _ _ c.args.q _ c.index_mut.result.now _ _
      (record { linked = c.self.invariant.0; view = c.self.view_is; some = c.requires; read = c.index-queue.ensures; found_is = c.index_mut.ensures.value; after_is = c.index.ensures }) c.take-slip.ensures.after,
  c.self.invariant.1,
  c.self.invariant.2,
)

pub returns-clause-slip : goal.returns-clause-slip
returns-clause-slip c =
    (pop_slip c.args.self.now _ _ _ c.args.q c.index-queue.result.now c.index_mut.result.now c.index.result.now _
    (record { linked = c.self.invariant.0; view = c.self.view_is; some = c.requires; read = c.index-queue.ensures; found_is = c.index_mut.ensures.value; after_is = c.index.ensures }) (sym c.take-slip.ensures.value ∙ c.unwrap.ensures)).0

pub returns-clause-rest : goal.returns-clause-rest
returns-clause-rest c =
    pop_shown c.args.self.now _ _ _ c.args.q _ c.index_mut.result.now _
    (record { linked = c.self.invariant.0; view = c.self.view_is; some = c.requires; read = c.index-queue.ensures; found_is = c.index_mut.ensures.value; after_is = c.index.ensures })

pub returns-clause-apart : goal.returns-clause-apart
returns-clause-apart c = seen_apart _ _ _ _ c.self.invariant.0 (seen _ _ _ c.self.view_is)

pub returns-clause-place : goal.returns-clause-place
returns-clause-place c =
    (pop_slip c.args.self.now _ _ _ c.args.q c.index-queue.result.now c.index_mut.result.now c.index.result.now _
    (record { linked = c.self.invariant.0; view = c.self.view_is; some = c.requires; read = c.index-queue.ensures; found_is = c.index_mut.ensures.value; after_is = c.index.ensures }) (sym c.take-slip.ensures.value ∙ c.unwrap.ensures)).1
