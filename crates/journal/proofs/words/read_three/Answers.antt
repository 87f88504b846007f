use Rattle.std.proofs.Common.{sym, ap, ℕ, List, [], ◌∷◌}
use Rattle.journal.specs.Lines.{OnPort, Sends}
use Rattle.common_lines.proofs.ChoiceLemmas.{word_is}
use Rattle.journal.proofs.ReadLemmas.{form_step}
use Rattle.journal.proofs.words.read_three.Goals as goal

pub returns-then-is : goal.returns-then-is
returns-then-is c = form_step c.read_send.result c.args.script.now (Sends c.args.b.now c.args.c.now) _ (ap (λ (w : List ℕ). w ∷ c.args.b.now ∷ c.args.c.now ∷ []) (word_is c.args.a.now _ (sym c.if-is.ensures))) c.read_send.ensures

pub returns-in-Some : goal.returns-in-Some
returns-in-Some c = form_step c.read_on_port.result c.args.script.now (OnPort c.in-Some.event c.args.b.now c.args.c.now) _ (ap (λ (w : List ℕ). w ∷ c.args.b.now ∷ c.args.c.now ∷ []) c.in-Some.ensures.some) c.read_on_port.ensures
