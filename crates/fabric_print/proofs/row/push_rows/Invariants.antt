use Rattle.std.proofs.Common.{◌≡◌, ◌++◌, take}
use Rattle.common_lines.specs.Lines.{forms_text_by}
use Rattle.fabric_print.proofs.row.push_rows.Given as goal

-- the rows so far
abbrev pub invariant-items : goal.invariant-items
invariant-items g l = l.text.items ≡ l.initial.text.items ++ forms_text_by g.T.HasRow.words (take l.item-index l.items)
