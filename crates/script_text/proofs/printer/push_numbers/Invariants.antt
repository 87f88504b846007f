use Rattle.std.proofs.Common.{◌≡◌, ◌++◌, take}
use Rattle.script_text.specs.Canonical.{spaced_numbers}
use Rattle.script_text.proofs.printer.push_numbers.Given as goal

-- the numbers so far were appended
abbrev pub invariant-numbers : goal.invariant-numbers
invariant-numbers l = l.text.items ≡ l.fn.text.items ++ spaced_numbers (take l.number-index l.numbers)
