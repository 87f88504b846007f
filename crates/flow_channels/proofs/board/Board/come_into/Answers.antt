use Rattle.std.proofs.Common.{◌∙◌, sym, ap, subst, length}
use Rattle.flow_channels.specs.Board.{IsSoundOver}
use Rattle.flow_channels.specs.Flows.{FlowOf}
use Rattle.flow_channels.specs.Queue.{QueueOf}
use Rattle.flow_channels.proofs.ComeLemmas.{behind_some, first_of_all, has_place, kept_pushed}
use Rattle.flow_channels.proofs.BoardLemmas.{one_read}
use Rattle.flow_channels.proofs.board.Board.come_into.Goals as goal

pub push-requires : goal.push-requires
push-requires c =
    let b = c.args.self.now in
    let r = c.requires in
    has_place c.args.tables.now b.packets b.entries b.queues b.routers r.kept c.args.channel c.args.slot r.spot r.slot r.sound c.place_of-2.result c.index_mut.result.now c.place_of-2.ensures.place c.index_mut.ensures.value

pub first_asks-requires-clause-kept : goal.first_asks-requires-clause-kept
first_asks-requires-clause-kept c =
    let b = c.args.self.now in
    let r = c.requires in
    kept_pushed c.args.tables.now b.packets b.entries b.queues b.routers r.kept c.args.channel c.args.slot r.spot r.slot r.sound c.place_of-2.result c.index_mut.result.now c.place_of-2.ensures.place c.index_mut.ensures.value c.push.new.self c.push.ensures

pub first_asks-requires-clause-sound : goal.first_asks-requires-clause-sound
first_asks-requires-clause-sound c =
    let b = c.args.self.now in
    let r = c.requires in
    let same = one_read b.queues.items c.place_of.result c.place_of-2.result c.index.result.now c.index_mut.result.now (c.place_of.ensures.place ∙ sym c.place_of-2.ensures.place) r.kept.queues c.place_of.ensures.low c.index.ensures c.index_mut.ensures.value in
    subst (λ (f : FlowOf). IsSoundOver c.args.tables.now f) (first_of_all c.args.tables.now b.packets b.entries b.queues b.routers r.kept c.args.channel c.args.slot r.spot r.slot r.sound c.place_of-2.result c.index_mut.result.now c.place_of-2.ensures.place c.index_mut.ensures.value c.push.new.self c.push.ensures (ap (λ (x : QueueOf). length x.slots) (sym same) ∙ sym c.len-count.ensures ∙ c.if-count-eq0.true)) r.sound

pub returns-then-count-eq0-clause-flow : goal.returns-then-count-eq0-clause-flow
returns-then-count-eq0-clause-flow c =
    let b = c.args.self.now in
    let r = c.requires in
    let same = one_read b.queues.items c.place_of.result c.place_of-2.result c.index.result.now c.index_mut.result.now (c.place_of.ensures.place ∙ sym c.place_of-2.ensures.place) r.kept.queues c.place_of.ensures.low c.index.ensures c.index_mut.ensures.value in
    c.first_asks.ensures.flow ∙ sym (first_of_all c.args.tables.now b.packets b.entries b.queues b.routers r.kept c.args.channel c.args.slot r.spot r.slot r.sound c.place_of-2.result c.index_mut.result.now c.place_of-2.ensures.place c.index_mut.ensures.value c.push.new.self c.push.ensures (ap (λ (x : QueueOf). length x.slots) (sym same) ∙ sym c.len-count.ensures ∙ c.if-count-eq0.true))

pub returns-clause-kept : goal.returns-clause-kept
returns-clause-kept c =
    let b = c.args.self.now in
    let r = c.requires in
    kept_pushed c.args.tables.now b.packets b.entries b.queues b.routers r.kept c.args.channel c.args.slot r.spot r.slot r.sound c.place_of-2.result c.index_mut.result.now c.place_of-2.ensures.place c.index_mut.ensures.value c.push.new.self c.push.ensures

pub returns-clause-flow : goal.returns-clause-flow
returns-clause-flow c =
    let b = c.args.self.now in
    let r = c.requires in
    let same = one_read b.queues.items c.place_of.result c.place_of-2.result c.index.result.now c.index_mut.result.now (c.place_of.ensures.place ∙ sym c.place_of-2.ensures.place) r.kept.queues c.place_of.ensures.low c.index.ensures c.index_mut.ensures.value in
    sym (behind_some c.args.tables.now b.packets b.entries b.queues b.routers r.kept c.args.channel c.args.slot r.spot r.slot r.sound c.place_of-2.result c.index_mut.result.now c.place_of-2.ensures.place c.index_mut.ensures.value c.push.new.self c.push.ensures (λ empty. c.if-count-eq0.false (c.len-count.ensures ∙ ap (λ (x : QueueOf). length x.slots) same ∙ empty)))

pub ahead-requires-clause-kept : goal.ahead-requires-clause-kept
ahead-requires-clause-kept c =
    let b = c.args.self.now in
    let r = c.requires in
    kept_pushed c.args.tables.now b.packets b.entries b.queues b.routers r.kept c.args.channel c.args.slot r.spot r.slot r.sound c.place_of-2.result c.index_mut.result.now c.place_of-2.ensures.place c.index_mut.ensures.value c.push.new.self c.push.ensures
