use Rattle.std.proofs.Common.{sym, ap, ◌∙◌, ℕ, List, [], ◌∷◌, codes}
use Rattle.net_script.specs.Forms.{Restarts}
use Rattle.common_lines.proofs.ChoiceLemmas.{word_is}
use Rattle.net_script.proofs.FormLemmas.{form_step}
use Rattle.net_script.proofs.form.read_four.Goals as goal

pub returns-then-is-2 : goal.returns-then-is-2
returns-then-is-2 c = form_step c.read_restart.result c.args.draft.now c.read_restart.new.draft (Restarts c.args.b.now c.args.d.now) _ (ap (λ (w : List ℕ). w ∷ c.args.b.now ∷ c.args.c.now ∷ c.args.d.now ∷ []) (word_is c.args.a.now _ (sym c.if-is.ensures)) ∙ ap (λ (w : List ℕ). codes "at" ∷ c.args.b.now ∷ w ∷ c.args.d.now ∷ []) (word_is c.args.c.now _ (sym c.if-is-2.ensures))) c.read_restart.ensures
