use Rattle.std.proofs.Common.{◌∙◌, ap, List, ℕ, ◌∷◌, codes}
use Rattle.common_lines.specs.Lines.{parts_of}
use Rattle.row_text.specs.TableForms.{RowLine}
use Rattle.table_script.proofs.TableFormOf.{table_step}
use Rattle.table_script.proofs.table_form.read_row_words.Goals as goal

pub returns : goal.returns
returns c =
    let words = c.in-Some.ensures.some ∙ ap (λ (ws : List (List ℕ)). c.in-Some.name.now ∷ ws) c.in-Some-next_word.ensures.some in
    table_step c.read_row_line.result c.args.script.now c.args.draft.now c.read_row_line.new.draft (RowLine c.in-Some.name.now c.in-Some-next_word.entry.now (parts_of c.in-Some-next_word.pairs.now)) (codes "row" ∷ parts_of c.args.text.now) (ap (λ (ws : List (List ℕ)). codes "row" ∷ ws) words) c.read_row_line.ensures
