use Rattle.std.proofs.Common.{sym, ap, ◌∙◌, ℕ, List, [], ◌∷◌, codes}
use Rattle.net_script.specs.Forms.{ChangesWire}
use Rattle.common_lines.proofs.ChoiceLemmas.{word_is}
use Rattle.net_script.proofs.FormLemmas.{form_step}
use Rattle.net_script.proofs.form.read_six.Goals as goal

pub returns-in-Some : goal.returns-in-Some
returns-in-Some c = form_step c.read_wire_change.result c.args.draft.now c.read_wire_change.new.draft (ChangesWire c.in-Some.change c.args.b.now c.args.d.now c.args.e.now c.args.f.now) _ (ap (λ (w : List ℕ). w ∷ c.args.b.now ∷ c.args.c.now ∷ c.args.d.now ∷ c.args.e.now ∷ c.args.f.now ∷ []) (word_is c.args.a.now _ (sym c.if-is.ensures)) ∙ ap (λ (w : List ℕ). codes "at" ∷ c.args.b.now ∷ w ∷ c.args.d.now ∷ c.args.e.now ∷ c.args.f.now ∷ []) c.in-Some.ensures.some) c.read_wire_change.ensures
