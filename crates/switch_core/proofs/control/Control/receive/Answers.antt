use Rattle.std.proofs.Common.{refl, subst, true, false}
use Rattle.ordered_link.specs.Receiving.{come, verdict}
use Rattle.ordered_link.specs.declared.receiver.Verdict.{Verdict}
use Rattle.ordered_link.specs.declared.receiver.Verdict.TheVariants as verdict
use Rattle.switch_core.specs.Sessions.{Receives}
use Rattle.switch_core.proofs.AcceptLemmas.{receives_other, receives_wanted}
use Rattle.switch_core.proofs.control.Control.receive.Goals as goal

pub returns-in_ok-accept-in-Accepted : goal.returns-in_ok-accept-in-Accepted
returns-in_ok-accept-in-Accepted c =
    receives_wanted c.args.port c.args.k c.args.body c.in-Accepted.body c.args.self.now c.accept.new.self c.on_carry.new.self c.args.sends.now c.accept.new.sends
    (subst (λ (v : Verdict). Receives c.args.port (come c.args.k c.args.body) (verdict c.args.k c.args.body) c.args.self.now.sessions c.on_carry.new.self v) c.in-Accepted.is c.on_carry.ensures)
    c.in_ok-accept-in-Accepted.ensures

pub returns-in-Held : goal.returns-in-Held
returns-in-Held c =
    receives_other c.args.port c.args.k c.args.body c.args.self.now c.on_carry.new.self (verdict.Held c.in-Held.wanted c.in-Held.got) c.args.sends.now true refl refl c.requires.core
    (subst (λ (v : Verdict). Receives c.args.port (come c.args.k c.args.body) (verdict c.args.k c.args.body) c.args.self.now.sessions c.on_carry.new.self v) c.in-Held.is c.on_carry.ensures)

pub returns-in-Repeat : goal.returns-in-Repeat
returns-in-Repeat c =
    receives_other c.args.port c.args.k c.args.body c.args.self.now c.on_carry.new.self (verdict.Repeat c.in-Repeat.last) c.args.sends.now true refl refl c.requires.core
    (subst (λ (v : Verdict). Receives c.args.port (come c.args.k c.args.body) (verdict c.args.k c.args.body) c.args.self.now.sessions c.on_carry.new.self v) c.in-Repeat.is c.on_carry.ensures)

pub returns-in-Ahead : goal.returns-in-Ahead
returns-in-Ahead c =
    receives_other c.args.port c.args.k c.args.body c.args.self.now c.on_carry.new.self (verdict.Ahead c.in-Ahead.wanted c.in-Ahead.got) c.args.sends.now false refl refl c.requires.core
    (subst (λ (v : Verdict). Receives c.args.port (come c.args.k c.args.body) (verdict c.args.k c.args.body) c.args.self.now.sessions c.on_carry.new.self v) c.in-Ahead.is c.on_carry.ensures)
