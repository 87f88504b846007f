use Rattle.std.proofs.Common.{sym, ap, ◌∙◌, refl, ℕ, List, ◌∷◌, map}
use Rattle.row_text.specs.TableForms.{ComponentLine, MemberLine}
use Rattle.common_lines.proofs.ChoiceLemmas.{word_is}
use Rattle.table_script.proofs.TableFormOf.{end_words}
use Rattle.table_script.proofs.table_form.read_first_word.Goals as goal

pub returns-then-is : goal.returns-then-is
returns-then-is c = record { form = ComponentLine _; line = ap (λ (w : List ℕ). w ∷ map (λ v. v.now) c.args.rest.now) (word_is c.args.first.now _ (sym c.if-is.ensures)); good = refl; then = refl }

pub returns-then-is-2 : goal.returns-then-is-2
returns-then-is-2 c = record { form = MemberLine _; line = ap (λ (w : List ℕ). w ∷ map (λ v. v.now) c.args.rest.now) (word_is c.args.first.now _ (sym c.if-is-2.ensures)); good = refl; then = refl }

pub returns-then-is_empty : goal.returns-then-is_empty
returns-then-is_empty c = end_words c.read_table_end.result c.args.network.now.script.now c.args.draft.now c.read_table_end.new.draft c.args.first.now c.args.rest.now (sym c.is-4.ensures ∙ c.if-is-4.true) (sym c.is_empty.ensures ∙ c.if-is_empty.true) c.read_table_end.ensures
