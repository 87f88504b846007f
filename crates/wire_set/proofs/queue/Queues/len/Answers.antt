use Rattle.std.proofs.Common.{◌<◌, ◌∙◌, sym, ap, arith, length}
use Rattle.std.proofs.lemmas.List.{get_or_default}
use Rattle.wire_set.specs.declared.queue.Queue.{Queue}
use Rattle.wire_set.specs.Queues.{empty}
use Rattle.wire_set.proofs.QueueLemmas.{seen, seen_apart}
use Rattle.wire_set.proofs.queue.Queues.len.Goals as goal

pub returns-clause-len : goal.returns-clause-len
returns-clause-len c =
    let s = seen _ _ _ c.self.view_is in
    let below : c.args.q < length c.self.inside.queues.items = omega (arith, c.requires, s.queues_len) in
    ap (λ (q : Queue). q.count) (c.index.ensures ∙ get_or_default _ _ _ empty below) ∙ sym (s.len c.args.q)

pub returns-clause-apart : goal.returns-clause-apart
returns-clause-apart c = seen_apart _ _ _ _ c.self.invariant.0 (seen _ _ _ c.self.view_is)

pub returns-clause-most : goal.returns-clause-most
returns-clause-most c =
    let s = seen _ _ _ c.self.view_is in
    let below : c.args.q < length c.self.inside.queues.items = omega (arith, c.requires, s.queues_len) in
    omega (arith, ap (λ (q : Queue). q.count) (c.index.ensures ∙ get_or_default c.self.inside.queues.items c.args.q c.index.result.now empty below), c.self.invariant.0.few c.args.q, c.self.invariant.0.most)
