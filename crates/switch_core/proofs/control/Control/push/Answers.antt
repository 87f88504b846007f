use Rattle.std.proofs.Common.{◌≡◌, ◌∙◌, sym, ap, subst, append-nil, arith, Some, None, [], ◌∷◌}
use Rattle.epoch_core.specs.Log.{OnPort}
use Rattle.ordered_link.specs.Sending.{push, sent_by_push}
use Rattle.switch_core.specs.Steps.{peer_among, pushed, pushed_to}
use Rattle.switch_core.specs.Stands.{Done, HasNumbers}
use Rattle.switch_core.proofs.PushLemmas.{kept_pushed}
use Rattle.switch_core.proofs.SessionLemmas.{each_of, session_at}
use Rattle.switch_core.proofs.StandsLemmas.{one_on_port, push_done, sends_one, sends_none}
use Rattle.switch_core.proofs.control.Control.push.Goals as goal

pub push-requires-clause-room : goal.push-requires-clause-room
push-requires-clause-room c session there =
    let x : OnPort = record { port = c.outgoing.inside.port; body = c.outgoing.inside.body } in
    let has = subst (λ (z : OnPort). HasNumbers c.args.self.now (z ∷ [])) (sym c.outgoing.view_is) c.requires in
    let is = session_at c.args.self.now.sessions.items has.switch.sendings has.switch.receivings x.port session c.in-Some.ensures.range.0 there (each_of c.args.self.now.sessions has.switch.sendings has.switch.receivings has.stands.sessions) in
    omega (arith, kept_pushed session.sender (has.switch.sendings x.port) is.0, has.numbers x.port, one_on_port x)

pub returns-in_ok-carry : goal.returns-in_ok-carry
returns-in_ok-carry c s stands =
    let x : OnPort = record { port = c.outgoing.inside.port; body = c.outgoing.inside.body } in
    let there : peer_among s.card.links x.port ≡ Some c.in-Some.peer = ap (λ ls. peer_among ls x.port) (sym stands.links) ∙ sym c.peer_of.ensures.peer ∙ c.in-Some.is in
    let sent = c.in_ok-k.ensures.ok s.sendings s.receivings stands.sessions in
    let t = push x.body c.args.self.now.tick (s.sendings x.port) in
    let number : Some c.in-Some-2.k ≡ sent_by_push x.body (s.sendings x.port) = sym c.in-Some-2.is ∙ sent.1 in
    let done = sends_one c.args.self.now c.carry.new.self s x.port c.in-Some-2.k c.in-Some.peer t c.push.new.self c.args.out.now c.carry.new.out stands sent.0 c.in_ok-carry.ensures.same c.in_ok-carry.ensures.out in
    subst (λ z. Done c.carry.new.self c.args.out.now c.carry.new.out (pushed z s)) c.outgoing.view_is (push_done c.args.self.now c.carry.new.self s x c.in-Some.peer c.args.self.now.tick (Some c.in-Some-2.k) c.args.out.now c.carry.new.out stands.tick there number done)

pub returns-in_default-2 : goal.returns-in_default-2
returns-in_default-2 c s stands =
    let x : OnPort = record { port = c.outgoing.inside.port; body = c.outgoing.inside.body } in
    let there : peer_among s.card.links x.port ≡ Some c.in-Some.peer = ap (λ ls. peer_among ls x.port) (sym stands.links) ∙ sym c.peer_of.ensures.peer ∙ c.in-Some.is in
    let sent = c.in_ok-k.ensures.ok s.sendings s.receivings stands.sessions in
    let t = push x.body c.args.self.now.tick (s.sendings x.port) in
    subst (λ z. Done (record c.args.self.now { sessions = c.push.new.self }) c.args.out.now c.args.out.now (pushed z s)) c.outgoing.view_is (push_done c.args.self.now (record c.args.self.now { sessions = c.push.new.self }) s x c.in-Some.peer c.args.self.now.tick None c.args.out.now c.args.out.now stands.tick there (sym c.in_default-2.is ∙ sent.1) (sends_none c.args.self.now s x.port c.in-Some.peer t c.push.new.self c.args.out.now stands sent.0))

pub returns-in_default : goal.returns-in_default
returns-in_default c s stands =
    let x : OnPort = record { port = c.outgoing.inside.port; body = c.outgoing.inside.body } in
    let none : peer_among s.card.links x.port ≡ None = ap (λ ls. peer_among ls x.port) (sym stands.links) ∙ sym c.peer_of.ensures.peer ∙ c.in_default.is in
    let done : Done c.args.self.now c.args.out.now c.args.out.now (pushed x s) = subst (λ o. Done c.args.self.now c.args.out.now c.args.out.now (pushed_to o x s)) (sym none) (stands, sym (append-nil c.args.out.now)) in
    subst (λ z. Done c.args.self.now c.args.out.now c.args.out.now (pushed z s)) c.outgoing.view_is done
