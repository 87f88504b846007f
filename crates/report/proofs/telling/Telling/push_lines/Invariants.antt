use Rattle.std.proofs.Common.{◌≡◌, ◌++◌, take}
use Rattle.report.specs.Events.{all_told}
use Rattle.report.proofs.telling.Telling.push_lines.Given as goal

-- the lines so far
abbrev pub invariant-lines : goal.invariant-lines
invariant-lines l = l.text.items ≡ l.initial.text.items ++ all_told l.self.script.now l.self.course l.rows (take l.line-index l.lines)
