use Rattle.std.proofs.Common.{◌∙◌, ap, sym, subst}
use Rattle.flow_channels.specs.Board.{IsSoundOver, ways}
use Rattle.flow_channels.specs.Flows.{FlowOf, first_asks}
use Rattle.flow_channels.proofs.BoardLemmas.{popped}
use Rattle.flow_channels.proofs.board.Board.leave.Goals as goal

pub first_asks-requires-clause-sound : goal.first_asks-requires-clause-sound
first_asks-requires-clause-sound c =
    let b = c.args.self.now in
    let is = popped b.packets b.entries b.queues b.routers c.args.channel c.place_of.result c.index_mut.result.now c.pop.new.self c.requires.kept.queues c.requires.spot c.place_of.ensures.place c.index_mut.ensures.value c.pop.ensures in
    subst (λ (f : FlowOf). IsSoundOver c.args.tables.now (first_asks (ways c.args.tables.now) c.args.channel f)) (sym is) c.requires.sound

pub returns-clause-flow : goal.returns-clause-flow
returns-clause-flow c =
    let b = c.args.self.now in
    let is = popped b.packets b.entries b.queues b.routers c.args.channel c.place_of.result c.index_mut.result.now c.pop.new.self c.requires.kept.queues c.requires.spot c.place_of.ensures.place c.index_mut.ensures.value c.pop.ensures in
    c.first_asks.ensures.flow ∙ ap (λ (f : FlowOf). first_asks (ways c.args.tables.now) c.args.channel f) is
