use Rattle.std.proofs.Common.{◌∙◌, Bool, sym, ap, refl, arith, take_all}
use Rattle.std.specs.List.{list_any}
use Rattle.std.proofs.lemmas.List.Folds.{list_any_at}
use Rattle.switch_core.proofs.NoteLemmas.{none_unacked}
use Rattle.switch_core.proofs.SessionLemmas.{unacked_of}
use Rattle.switch_core.proofs.session.Sessions.is_unacked.Goals as goal

pub ports-init : goal.ports-init
ports-init c = refl

pub returns-then-unacked : goal.returns-then-unacked
returns-then-unacked c t r are =
    sym (sym (ap (list_any (λ (b : Bool). b)) (unacked_of c.args.self.now t r (omega arith) are)) ∙ list_any_at (λ (b : Bool). b) c.args.self.now.unacked c.ports.unacked-index _ (omega (arith, c.ports-test.true)) c.if-unacked.true)

pub ports-preserved : goal.ports-preserved
ports-preserved c = none_unacked c.args.self.now.unacked c.ports.unacked-index _ (omega (arith, c.ports-test.true)) c.if-unacked.false c.ports.invariant

pub returns : goal.returns
returns c t r are =
    sym (sym (ap (list_any (λ (b : Bool). b)) (unacked_of c.args.self.now t r (omega arith) are)) ∙ ap (list_any (λ (b : Bool). b)) (sym (take_all c.ports.unacked-index c.args.self.now.unacked (omega (arith, c.ports-test.false)))) ∙ c.ports.invariant)
