use Rattle.std.proofs.Common.{◌∙◌, ap, sym, subst, arith, List, length}
use Rattle.flow_channels.specs.declared.board.Board.{Board}
use Rattle.flow_channels.specs.declared.board.Packet.{Packet}
use Rattle.flow_channels.specs.Flows.{left_of}
use Rattle.flow_channels.specs.Turns.{NoneArrives}
use Rattle.flow_channels.specs.View.{FlowView, IsOver}
use Rattle.flow_channels.proofs.ViewLaws.{arrived_view, departed_view, left_after, none_after, over_after, over_turned, running_turned}
use Rattle.flow_channels.proofs.flow.Flow.turn.Goals as goal

pub invariant_of-self : goal.invariant_of-self
invariant_of-self c =
    let i = c.self.inside in
    let has = c.self.invariant.0 in
    let a = has.left_is in
    let b = c.in-Some.ensures.left in
    let few = has.few in
    let n = ap (λ (ps : List Packet). length ps) c.in-Some.ensures.turned.packets in (
      record {
        running = running_turned i.tables i.board c.arrive.new.board c.in-Some.went has.running c.in-Some.ensures.turned;
        left_is = omega arith;
        few = omega arith;
      },
      c.arrive.ensures.watched,
    )

pub returns-in-Some-clause-turned : goal.returns-in-Some-clause-turned
returns-in-Some-clause-turned c =
    let i = c.self.inside in
    arrived_view i.tables i.board c.arrive.new.board c.in-Some.went c.args.self.now c.self.view_is c.in-Some.ensures.turned

pub depart-requires-clause-none : goal.depart-requires-clause-none
depart-requires-clause-none c =
    let t = c.self.inside.tables in
    subst (λ (b : Board). NoneArrives t b 1651) (sym c.in_default.ensures.same) c.in_default.ensures.turned

pub returns-clause-turned : goal.returns-clause-turned
returns-clause-turned c =
    let i = c.self.inside in
    departed_view i.tables i.board c.arrive.new.board c.depart.new.board c.depart.result c.args.self.now c.self.view_is c.in_default.ensures.same c.depart.ensures.turned c.depart.ensures.same

pub returns-in-Some-clause-over : goal.returns-in-Some-clause-over
returns-in-Some-clause-over c = λ layout over.
    let i = c.self.inside in
    over_turned i.tables i.board c.arrive.new.board c.in-Some.went layout (subst (λ (v : FlowView). IsOver layout v) (sym c.self.view_is) over) c.in-Some.ensures.turned

pub invariant_of-self-2 : goal.invariant_of-self-2
invariant_of-self-2 c =
    let i = c.self.inside in (
      left_after i.tables i.board c.arrive.new.board c.depart.new.board i.left c.depart.result c.in_default.ensures.same c.self.invariant.0 c.depart.ensures.turned c.depart.ensures.same c.depart.ensures.running c.depart.ensures.left,
      c.depart.ensures.watched,
    )

pub returns-clause-over : goal.returns-clause-over
returns-clause-over c = λ layout over.
    let i = c.self.inside in
    over_after i.tables i.board c.arrive.new.board c.depart.new.board c.depart.result layout c.in_default.ensures.same (subst (λ (v : FlowView). IsOver layout v) (sym c.self.view_is) over) c.depart.ensures.turned c.depart.ensures.same

pub returns-clause-none : goal.returns-clause-none
returns-clause-none c =
    let i = c.self.inside in
    let both = none_after i.tables i.board c.arrive.new.board c.depart.new.board c.depart.result c.in_default.ensures.same c.self.invariant.0.running c.depart.ensures.turned in
    let flow = ap (λ (v : FlowView). left_of v.flow) c.self.view_is in
    ((λ none. sym flow ∙ both.0 none), (λ empty. both.1 (flow ∙ empty)))
