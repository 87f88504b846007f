use Rattle.std.proofs.Common.{refl, sym, subst, ℕ}
use Rattle.std.specs.Prelude.{OnOk}
use Rattle.std.proofs.lemmas.Result.{on_ok_weaker}
use Rattle.an_base.specs.declared.body.Body.{Body}
use Rattle.an_base.specs.declared.body.Body.TheVariants.{Answer, Stable, Topo}
use Rattle.epoch_core.specs.StandsFor.{Accepts}
use Rattle.epoch_core.proofs.AcceptLemmas.{accepts_where}
use Rattle.epoch_core.proofs.epoch.Core.accept.Goals as goal

pub returns-in-Answer : goal.returns-in-Answer
returns-in-Answer c =
    subst (λ (b : Body). OnOk c.settle.result (Accepts c.args.self.now c.settle.new.self (record { port = c.args.port; body = b }) c.args.sends.now c.settle.new.sends)) (sym c.in-Answer.is)
    (accepts_where c.settle.result _ _ c.note_answer.new.self c.settle.new.self (record { port = c.args.port; body = Answer c.in-Answer.answer }) c.args.sends.now c.settle.new.sends c.self.view_is (record { quiet = λ bs. refl }) tt (λ p. refl) c.note_answer.ensures c.settle.ensures)

pub returns-in-Stable : goal.returns-in-Stable
returns-in-Stable c =
    subst (λ (b : Body). OnOk c.settle-in-Stable.result (Accepts c.args.self.now c.settle-in-Stable.new.self (record { port = c.args.port; body = b }) c.args.sends.now c.settle-in-Stable.new.sends)) (sym c.in-Stable.is)
    (accepts_where c.settle-in-Stable.result _ _ c.note_report.new.self c.settle-in-Stable.new.self (record { port = c.args.port; body = Stable c.in-Stable.entries }) c.args.sends.now c.settle-in-Stable.new.sends c.self-in-Stable.view_is (record { quiet = λ bs. refl }) tt (λ p. refl) c.note_report.ensures c.settle-in-Stable.ensures)

pub returns-in-Topo : goal.returns-in-Topo
returns-in-Topo c =
    on_ok_weaker c.accept_topo.result
    (λ (all : (port : ℕ) → Accepts c.args.self.now c.accept_topo.new.self (record { port = port; body = Topo c.in-Topo.topo }) c.args.sends.now c.accept_topo.new.sends).
    subst (λ (b : Body). Accepts c.args.self.now c.accept_topo.new.self (record { port = c.args.port; body = b }) c.args.sends.now c.accept_topo.new.sends) (sym c.in-Topo.is) (all c.args.port))
    c.accept_topo.ensures
