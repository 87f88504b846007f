use Rattle.std.proofs.Common.{◌∙◌, sym, subst, Some}
use Rattle.ordered_link.specs.Sending.{acknowledge, sent_by_ack}
use Rattle.switch_core.specs.Steps.{acknowledges, fills}
use Rattle.switch_core.specs.Stands.{Does, Done}
use Rattle.switch_core.proofs.AckLemmas.{acked_none, acked_some}
use Rattle.switch_core.proofs.StandsLemmas.{does_then, sends_one, sent_done}
use Rattle.switch_core.proofs.control.Control.on_ack.Goals as goal

pub returns-in_ok-fill : goal.returns-in_ok-fill
returns-in_ok-fill c s stands =
    let port = c.args.port in
    let peer = c.args.peer in
    let old = c.args.self.now in
    let first : Does (acknowledges port peer c.args.n) old c.carry.new.self c.args.out.now c.carry.new.out = λ t is.
    let sent = c.on_ack.ensures.sent t.sendings t.receivings is.sessions in
    sent_done c.carry.new.self t port peer old.tick (Some c.in-Some.k) (acknowledge c.args.n) (sent_by_ack c.args.n) c.args.out.now c.carry.new.out is.tick (sym c.in-Some.is ∙ sent.1)
    (sends_one old c.carry.new.self t port c.in-Some.k peer (acknowledge c.args.n old.tick (t.sendings port)) c.on_ack.new.self c.args.out.now c.carry.new.out is sent.0 c.in_ok-carry.ensures.same c.in_ok-carry.ensures.out) in
    let sent = c.on_ack.ensures.sent s.sendings s.receivings stands.sessions in
    subst (λ step. Done c.fill.new.self c.args.out.now c.fill.new.out step) (sym (acked_some port c.args.n c.args.epoch c.in-Some.k peer s (c.if-epoch-self.false ∙ stands.epoch) (sym sent.1 ∙ c.in-Some.is)))
    (does_then (acknowledges port peer c.args.n) (fills 7 port peer) old c.carry.new.self c.fill.new.self c.args.out.now c.carry.new.out c.fill.new.out first c.in_ok-fill.ensures s stands)

pub returns-in_default : goal.returns-in_default
returns-in_default c s stands =
    let sent = c.on_ack.ensures.sent s.sendings s.receivings stands.sessions in
    acked_none c.args.self.now c.on_ack.new.self c.args.port c.args.n c.args.epoch c.args.self.now.tick c.args.peer s c.args.out.now stands.tick (c.if-epoch-self.false ∙ stands.epoch) (sym sent.1 ∙ c.in_default.is) stands sent.0
