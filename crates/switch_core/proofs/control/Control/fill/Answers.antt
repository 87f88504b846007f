use Rattle.std.proofs.Common.{◌≡◌, ◌∙◌, sym, subst, arith, ◌+◌, ◌-◌, Some, None}
use Rattle.switch_core.specs.declared.control.Control.{Control}
use Rattle.ordered_link.specs.Sending.{next_to_send, send_next}
use Rattle.switch_core.specs.Steps.{fills, sends_next}
use Rattle.switch_core.specs.Stands.{Does}
use Rattle.switch_core.proofs.FillLemmas.{fills_none, fills_one, fills_then, stands_unsent}
use Rattle.switch_core.proofs.StandsLemmas.{does_nothing, sends_one, sent_done}
use Rattle.switch_core.proofs.control.Control.fill.Goals as goal

pub window-init : goal.window-init
window-init c = (omega arith, does_nothing c.args.self.now c.args.out.now)

pub window-preserved : goal.window-preserved
window-preserved c =
    let old = c.window.self in
    let next : Does (sends_next c.args.port c.args.peer) old c.carry.new.self c.window.out c.carry.new.out = λ s stands.
    let sent = c.more.ensures.sent s.sendings s.receivings stands.sessions in
    sent_done c.carry.new.self s c.args.port c.args.peer old.tick (Some c.in-Some.k) send_next next_to_send c.window.out c.carry.new.out stands.tick (sym c.in-Some.is ∙ sent.1)
    (sends_one old c.carry.new.self s c.args.port c.in-Some.k c.args.peer (send_next old.tick (s.sendings c.args.port)) c.more.new.self c.window.out c.carry.new.out stands sent.0 c.in_ok-carry.ensures.same c.in_ok-carry.ensures.out) in (
      omega (arith, c.window-test.true),
      fills_then c.window.counter 1 c.args.port c.args.peer c.args.self.now old c.carry.new.self c.args.out.now c.window.out c.carry.new.out c.window.invariant.1
          (fills_one c.args.port c.args.peer old c.carry.new.self c.window.out c.carry.new.out next),
    )

pub returns : goal.returns
returns c =
    let e : c.window.counter ≡ 7 = omega (arith, c.window.invariant.0, c.window-test.false) in
    subst (λ n. Does (fills n c.args.port c.args.peer) c.args.self.now c.window.self c.args.out.now c.window.out) e c.window.invariant.1

pub returns-in_default : goal.returns-in_default
returns-in_default c =
    let old = c.window.self in
    let new : Control = record old { sessions = c.more.new.self } in
    let rest : Does (fills (7 - c.window.counter) c.args.port c.args.peer) old new c.window.out c.window.out = λ s stands.
    let sent = c.more.ensures.sent s.sendings s.receivings stands.sessions in
    let none : next_to_send (s.sendings c.args.port) ≡ None = sym sent.1 ∙ c.in_default.is in
    fills_none (7 - c.window.counter) c.args.port c.args.peer new c.window.out s none (stands_unsent old c.more.new.self c.args.port old.tick s none stands sent.0) in
    let e : c.window.counter + (7 - c.window.counter) ≡ 7 = omega (arith, c.window.invariant.0) in
    subst (λ n. Does (fills n c.args.port c.args.peer) c.args.self.now new c.args.out.now c.window.out) e
    (fills_then c.window.counter (7 - c.window.counter) c.args.port c.args.peer c.args.self.now old new c.args.out.now c.window.out c.window.out c.window.invariant.1 rest)
