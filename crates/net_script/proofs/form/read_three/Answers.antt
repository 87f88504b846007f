use Rattle.std.proofs.Common.{sym, ap, ◌∙◌, ℕ, List, [], ◌∷◌, ◌++◌, None}
use Rattle.net_script.specs.Forms.{Number, SwitchLine}
use Rattle.common_lines.proofs.ChoiceLemmas.{word_is}
use Rattle.net_script.proofs.FormLemmas.{form_step}
use Rattle.net_script.proofs.form.read_three.Goals as goal

pub returns-then-is : goal.returns-then-is
returns-then-is c = form_step c.read_switch.result c.args.draft.now c.read_switch.new.draft (SwitchLine c.args.b.now c.args.c.now None) _ (ap (λ (w : List ℕ). w ∷ c.args.b.now ∷ c.args.c.now ∷ []) (word_is c.args.a.now _ (sym c.if-is.ensures))) c.read_switch.ensures

pub returns-in-Some : goal.returns-in-Some
returns-in-Some c = form_step c.read_setting.result c.args.draft.now c.read_setting.new.draft (Number c.in-Some.setting c.args.c.now) _ (ap (λ (w : List ℕ). w ∷ c.args.b.now ∷ c.args.c.now ∷ []) (word_is c.args.a.now _ (sym c.if-is-2.ensures)) ∙ ap (λ (ws : List (List ℕ)). ws ++ c.args.c.now ∷ []) c.in-Some.ensures.some) c.read_setting.ensures
