use Rattle.std.proofs.Common.{◌≡◌, ◌∙◌, sym, ap, subst, append-nil, cond, true, eqb, ◌&&◌, arith}
use Rattle.std.proofs.lemmas.Bool.Decides.{nat_tests}
use Rattle.an_base.specs.Values.{EndId, LifeId}
use Rattle.connectivity.specs.Connections.{is_same_end}
use Rattle.port_monitor.specs.Histories.{Replied, with_happening}
use Rattle.switch_core.specs.Switch.{end_at}
use Rattle.switch_core.specs.Steps.{still}
use Rattle.switch_core.specs.Stands.{Done}
use Rattle.switch_core.proofs.SampleLemmas.{stands_ports}
use Rattle.switch_core.proofs.control.Control.on_reply.Goals as goal

same_end : (p q : EndId) → (eqb p.life.uid q.life.uid && eqb p.life.boot q.life.boot) && eqb p.port q.port ≡ true → is_same_end p q ≡ true
same_end p q same = grind (arith, nat_tests, same)

pub returns-then-eq : goal.returns-then-eq
returns-then-eq c out s stands =
    let mine : c.end_at.result ≡ end_at s c.args.port = c.end_at.ensures ∙ ap (λ (l : LifeId). record { life = l; port = c.args.port }) stands.life in
    let test : is_same_end c.args.to (end_at s c.args.port) ≡ true = ap (is_same_end c.args.to) (sym mine) ∙ same_end c.args.to c.end_at.result (sym c.eq.ensures ∙ c.if-eq.true) in
    let replied = record s { ports = with_happening c.args.port (Replied c.args.from c.args.nonce) s.ports } in
    let new = record c.args.self.now { monitor = c.on_reply.new.self } in
    subst (λ step. Done new out out step) (sym (ap (λ b. cond b (still replied) (still s)) test)) (
      stands_ports c.args.self.now s c.on_reply.new.self c.args.self.now.tick s.tick replied.ports stands.tick stands c.on_reply.ensures.life (c.on_reply.ensures.after s.ports stands.ports),
      sym (append-nil out),
    )
