use Rattle.std.proofs.Common.{◌≡◌, ◌++◌, take}
use Rattle.common_lines.specs.Lines.{forms_text_by}
use Rattle.fabric_repair_commands.specs.Reports.{set_row}
use Rattle.fabric_repair_commands.proofs.report.push_set.Given as goal

-- the rows so far
abbrev pub invariant-rows : goal.invariant-rows
invariant-rows l = l.text.items ≡ l.initial.text.items ++ forms_text_by set_row (take l.row-index l.rows)
