use Rattle.std.proofs.Common.{sym, ap, ◌∙◌, ℕ, List, [], ◌∷◌, codes}
use Rattle.net_script.specs.declared.setting.Setting.TheVariants.{Epoch, Pace}
use Rattle.net_script.specs.Forms.{Number, AnyRoutes}
use Rattle.common_lines.proofs.ChoiceLemmas.{word_is}
use Rattle.net_script.proofs.FormLemmas.{form_step}
use Rattle.net_script.proofs.form.read_two.Goals as goal

pub returns-then-is : goal.returns-then-is
returns-then-is c = form_step c.read_setting.result c.args.draft.now c.read_setting.new.draft (Number Epoch c.args.b.now) _ (ap (λ (w : List ℕ). w ∷ c.args.b.now ∷ []) (word_is c.args.a.now _ (sym c.if-is.ensures))) c.read_setting.ensures

pub returns-then-is-2 : goal.returns-then-is-2
returns-then-is-2 c = form_step c.read_setting-then-is-2.result c.args.draft.now c.read_setting-then-is-2.new.draft (Number Pace c.args.b.now) _ (ap (λ (w : List ℕ). w ∷ c.args.b.now ∷ []) (word_is c.args.a.now _ (sym c.if-is-2.ensures))) c.read_setting-then-is-2.ensures

pub returns-then-is-4 : goal.returns-then-is-4
returns-then-is-4 c = form_step c.read_any_routes.result c.args.draft.now c.read_any_routes.new.draft (AnyRoutes) _ (ap (λ (w : List ℕ). w ∷ c.args.b.now ∷ []) (word_is c.args.a.now _ (sym c.if-is-3.ensures)) ∙ ap (λ (w : List ℕ). codes "routes" ∷ w ∷ []) (word_is c.args.b.now _ (sym c.if-is-4.ensures))) c.read_any_routes.ensures
