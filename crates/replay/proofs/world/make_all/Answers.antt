use Rattle.std.proofs.Common.{arith, subst, List}
use Rattle.std.proofs.lemmas.Result.{err_from_is_err_and}
use Rattle.an_base.specs.declared.event.Event.{Event}
use Rattle.replay.specs.Replays.{IsRefusal}
use Rattle.replay.proofs.ReplayLemmas.{made_all, refused_at, refused_behind}
use Rattle.replay.proofs.world.make_all.Goals as goal

pub returns-in_err-step-clause-refused : goal.returns-in_err-step-clause-refused
returns-in_err-step-clause-refused c =
    let script = c.args.net.now.script in
    let p = err_from_is_err_and c.from_residual.result c.from_residual.ensures.1 in
    let refused = refused_at script c.as_slice-events.result.now c.events.event-index c.event-item.result c.event-item.result c.events.net c.in_err-step.field-0.0 c.events-test.true c.event-item.is c.events.invariant c.in_err-step.ensures.refused in
    rw (p.1, p.2) (subst (λ (events : List Event). IsRefusal script events c.in_err-step.field-0.0) c.as_slice-events.ensures refused)

pub returns-in_err-end_of-clause-refused : goal.returns-in_err-end_of-clause-refused
returns-in_err-end_of-clause-refused c =
    let p = err_from_is_err_and c.from_residual-in_err-end_of.result c.from_residual-in_err-end_of.ensures.1 in
    let script = c.args.net.now.script in
    let events = c.as_slice-events.result.now in
    let over = c.events-test.false in
    let made = made_all script events c.events.event-index c.events.net (omega (arith, over)) c.events.invariant in
    let refused = refused_behind script events c.events.net c.in_err-end_of.field-0.0 made c.in_err-end_of.ensures.unended in
    rw (p.1, p.2) (subst (λ (events : List Event). IsRefusal script events c.in_err-end_of.field-0.0) c.as_slice-events.ensures refused)
