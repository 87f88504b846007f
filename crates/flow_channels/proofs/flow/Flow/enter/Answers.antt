use Rattle.std.proofs.Common.{sym, subst, arith}
use Rattle.flow_channels.specs.Runs.{MayEnter}
use Rattle.flow_channels.specs.View.{FlowView, IsOver}
use Rattle.flow_channels.proofs.ViewLaws.{enter_over, over_entered, running_entered}
use Rattle.flow_channels.proofs.flow.Flow.enter.Goals as goal

pub enter-requires-clause-from : goal.enter-requires-clause-from
enter-requires-clause-from c = c.requires.over.wired.low c.args.from c.requires.may.from_in

pub enter-requires-clause-to : goal.enter-requires-clause-to
enter-requires-clause-to c = c.requires.over.wired.low c.args.to c.requires.may.to_in

pub enter-requires-clause-sound : goal.enter-requires-clause-sound
enter-requires-clause-sound c =
    let i = c.self.inside in
    let r = c.requires in
    enter_over i.tables i.board c.args.packet c.args.from c.args.to r.layout (subst (λ (v : FlowView). IsOver r.layout v) (sym c.self.view_is) r.over) (subst (λ (v : FlowView). MayEnter r.layout v.limit v.known c.args.packet c.args.from c.args.to) (sym c.self.view_is) r.may)

pub overflow_add-self : goal.overflow_add-self
overflow_add-self c =
    let few = c.self.invariant.0.few in
    let most = c.self.invariant.0.running.kept.few in
    let limit = c.self.invariant.0.running.limit in
    omega arith

pub invariant_of-self : goal.invariant_of-self
invariant_of-self c =
    let i = c.self.inside in
    let r = c.requires in (
      running_entered i.tables i.board c.enter.new.board i.left (record { packet = c.args.packet; to = c.args.to }) c.args.from r.layout c.self.invariant.0 c.enter.ensures.kept (subst (λ (v : FlowView). IsOver r.layout v) (sym c.self.view_is) r.over) (subst (λ (v : FlowView). MayEnter r.layout v.limit v.known c.args.packet c.args.from c.args.to) (sym c.self.view_is) r.may) c.enter.ensures.flow c.enter.ensures.packets,
      c.enter.ensures.watched,
    )

pub returns-clause-over : goal.returns-clause-over
returns-clause-over c = λ layout over may.
    let i = c.self.inside in
    over_entered i.tables i.board c.enter.new.board (record { packet = c.args.packet; to = c.args.to }) c.args.from layout (subst (λ (v : FlowView). IsOver layout v) (sym c.self.view_is) over) (subst (λ (v : FlowView). MayEnter layout v.limit v.known c.args.packet c.args.from c.args.to) (sym c.self.view_is) may) c.enter.ensures.flow c.enter.ensures.packets
