use Rattle.std.proofs.Common.{◌≡◌, ◌++◌, map, take}
use Rattle.expect_text.specs.Expect.{member_form}
use Rattle.row_text.specs.TableForms.{table_text}
use Rattle.expect_text.proofs.expect.push_members.Given as goal

-- the members so far
abbrev pub invariant-members : goal.invariant-members
invariant-members l = l.text.items ≡ l.fn.text.items ++ table_text (map (member_form l.lives.script.now) (take l.entry-index l.entries))
