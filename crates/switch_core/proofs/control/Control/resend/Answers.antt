use Rattle.std.proofs.Common.{◌∙◌, sym, ap, subst, arith, ◌+◌, ◌-◌}
use Rattle.switch_core.specs.declared.control.Control.{Control}
use Rattle.switch_core.specs.declared.session.Sessions.{Sessions}
use Rattle.switch_core.specs.Sessions.{AreSessions, IsOutAt}
use Rattle.switch_core.proofs.ResendLemmas.{again_done, arrives_early, arrives_last, first_due_of, one_more_again, sets_out}
use Rattle.switch_core.proofs.control.Control.resend.Goals as goal

pub window-init : goal.window-init
window-init c s stands = sets_out c.args.link.now c.args.self.now s c.args.out.now c.port-port.ensures.least c.port-port.ensures.most (omega arith) c.requires stands

pub resent-requires-clause-out : goal.resent-requires-clause-out
resent-requires-clause-out c = subst (λ (x : Sessions). IsOutAt x c.port-port.result c.in-Some.k) (sym (ap (λ (x : Control). x.sessions) c.in_ok-carry.ensures.same)) c.in-Some.ensures.out

pub window-preserved : goal.window-preserved
window-preserved c s stands =
    let l = c.args.link.now in
    let old = c.window.self in
    let way = c.window.invariant s stands in
    let port = c.port-port.result in
    let here = way.switch in
    let first = first_due_of c.due.result old here l port c.port-port.ensures.port way.stands (c.due.ensures.first here.sendings here.receivings way.stands.sessions) ∙ c.in-Some.is in
    let are = c.resent.ensures here.sendings here.receivings (subst (λ (x : Sessions). AreSessions x here.sendings here.receivings) (sym (ap (λ (x : Control). x.sessions) c.in_ok-carry.ensures.same)) way.stands.sessions) in
    one_more_again l c.in-Some.k (8 - c.window.counter) (8 - (c.window.counter + 1)) s c.args.out.now old (record c.carry.new.self { sessions = c.resent.new.self }) c.window.out c.carry.new.out way (omega (arith, c.window-test.true)) first
    (again_done old c.carry.new.self here l port c.in-Some.k c.peer.result c.resent.new.self c.window.out c.carry.new.out c.port-port.ensures.port c.peer.ensures way.stands c.in_ok-carry.ensures.same c.in_ok-carry.ensures.out are)

pub returns-in_default : goal.returns-in_default
returns-in_default c s stands =
    let l = c.args.link.now in
    let old = c.window.self in
    let way = c.window.invariant s stands in
    let here = way.switch in
    arrives_early l (8 - c.window.counter) s c.args.out.now old c.window.out way
    (first_due_of c.due.result old here l c.port-port.result c.port-port.ensures.port way.stands (c.due.ensures.first here.sendings here.receivings way.stands.sessions) ∙ c.in_default.is)

pub returns : goal.returns
returns c s stands = arrives_last c.args.link.now (8 - c.window.counter) s c.args.out.now c.window.self c.window.out (c.window.invariant s stands) (omega (arith, c.window-test.false))
