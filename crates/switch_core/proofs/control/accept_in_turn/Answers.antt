use Rattle.std.proofs.Common.{◌≡◌, arith, subst}
use Rattle.an_base.specs.declared.body.Body.{Body}
use Rattle.std.specs.Prelude.{Option}
use Rattle.ordered_link.specs.Receiving.{follow}
use Rattle.switch_core.specs.Sessions.{Receives, wanted}
use Rattle.switch_core.proofs.TurnLemmas.{turned_all, turned_first, turned_more, turned_none}
use Rattle.switch_core.proofs.control.accept_in_turn.Goals as goal

pub held-init : goal.held-init
held-init c = turned_first c.args.port c.args.body c.args.core.now c.accept.new.self c.args.sessions.now c.args.sends.now c.accept.new.sends c.in_ok-accept.ensures

pub returns-in_default : goal.returns-in_default
returns-in_default c =
    turned_none c.held.counter c.args.port c.args.body c.args.core.now c.held.core c.args.sessions.now c.held.sessions c.next.new.self c.args.sends.now c.held.sends c.held.invariant
    (subst (λ (o : Option Body). Receives c.args.port follow wanted c.held.sessions c.next.new.self o) c.in_default.is c.next.ensures)

pub accept-requires-in-held-clause-room : goal.accept-requires-in-held-clause-room
accept-requires-in-held-clause-room c = omega (arith, c.held.invariant.version, c.requires.room, c.held-test.true)

pub held-preserved : goal.held-preserved
held-preserved c =
    turned_more c.held.counter c.args.port c.args.body c.in-Some.body c.args.core.now c.held.core c.accept-in-held.new.self c.args.sessions.now c.held.sessions c.next.new.self c.args.sends.now c.held.sends c.accept-in-held.new.sends c.held-test.true c.held.invariant
    (subst (λ (o : Option Body). Receives c.args.port follow wanted c.held.sessions c.next.new.self o) c.in-Some.is c.next.ensures) c.in_ok-accept-2.ensures

pub returns : goal.returns
returns c =
    let seven : c.held.counter ≡ 7 = omega (arith, c.held.invariant.few, c.held-test.false) in
    turned_all c.held.counter c.args.port c.args.body c.args.core.now c.held.core c.args.sessions.now c.held.sessions c.args.sends.now c.held.sends seven c.held.invariant
