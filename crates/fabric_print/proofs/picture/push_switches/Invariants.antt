use Rattle.std.proofs.Common.{◌≡◌, ◌++◌, take}
use Rattle.common_lines.specs.Lines.{forms_text_by}
use Rattle.fabric_print.specs.Pictures.{switch_row}
use Rattle.fabric_print.proofs.picture.push_switches.Given as goal

-- the lines so far
abbrev pub invariant-names : goal.invariant-names
invariant-names l = l.text.items ≡ l.initial.text.items ++ forms_text_by switch_row (take l.name-index l.names)
