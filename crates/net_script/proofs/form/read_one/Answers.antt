use Rattle.std.proofs.Common.{sym, ap, refl, ℕ, List, [], ◌∷◌}
use Rattle.net_script.specs.Forms.{End}
use Rattle.common_lines.proofs.ChoiceLemmas.{word_is}
use Rattle.net_script.proofs.form.read_one.Goals as goal

pub returns-then-is : goal.returns-then-is
returns-then-is c = record { form = End; line = ap (λ (w : List ℕ). w ∷ []) (word_is c.args.a.now _ (sym c.if-is.ensures)); good = refl; then = refl }
