use Rattle.std.proofs.Common.{◌≡◌, subst, List, ℕ, ◌++◌}
use Rattle.std.specs.Prelude.{OnOk}
use Rattle.common_lines.specs.Lines.{line_text}
use Rattle.fabric_print.specs.RowWords.{word_text}
use Rattle.fabric_print.proofs.PictureLemmas.{arrow_words}
use Rattle.fabric_print.proofs.picture.push_arrow.Goals as goal

pub returns : goal.returns
returns c =
    subst (λ (row : List (List ℕ)). OnOk c.push_row.result (c.push_row.new.text.items ≡ c.args.text.now.items ++ line_text row))
    (arrow_words (word_text c.args.label) c.args.arrow.now _ _ _ c.from.ensures c.from-2.ensures c.from-3.ensures) c.push_row.ensures
