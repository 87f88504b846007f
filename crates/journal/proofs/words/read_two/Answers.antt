use Rattle.std.proofs.Common.{sym, ap, ℕ, List, [], ◌∷◌}
use Rattle.journal.specs.Lines.{Moves, OnSwitch}
use Rattle.common_lines.proofs.ChoiceLemmas.{word_is}
use Rattle.journal.proofs.ReadLemmas.{form_step}
use Rattle.journal.proofs.words.read_two.Goals as goal

pub returns-then-is : goal.returns-then-is
returns-then-is c = form_step c.read_move.result c.args.script.now (Moves c.args.b.now) _ (ap (λ (w : List ℕ). w ∷ c.args.b.now ∷ []) (word_is c.args.a.now _ (sym c.if-is.ensures))) c.read_move.ensures

pub returns-in-Some : goal.returns-in-Some
returns-in-Some c = form_step c.read_on_switch.result c.args.script.now (OnSwitch c.in-Some.event c.args.b.now) _ (ap (λ (w : List ℕ). w ∷ c.args.b.now ∷ []) c.in-Some.ensures.some) c.read_on_switch.ensures
