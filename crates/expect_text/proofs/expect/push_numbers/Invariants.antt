use Rattle.std.proofs.Common.{◌≡◌, ◌++◌, map, take}
use Rattle.std.specs.List.{zip}
use Rattle.expect_text.specs.Expect.{number_form}
use Rattle.row_text.specs.TableForms.{table_text}
use Rattle.expect_text.proofs.expect.push_numbers.Given as goal

-- the numbers so far
abbrev pub invariant-numbers : goal.invariant-numbers
invariant-numbers l = l.text.items ≡ l.fn.text.items ++ table_text (map (number_form l.lives.script.now) (zip (take l.i l.entries) (take l.i l.numbers)))
