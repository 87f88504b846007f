-- Those before are there.

use Rattle.std.proofs.Common.{◌≡◌, ◌++◌, take}
use Rattle.std.specs.List.{flat_map}
use Rattle.std.specs.Prelude.{option_to_list}
use Rattle.fabric_book.proofs.lines.Lines.push_all.Given as goal

abbrev pub invariant-lines : goal.invariant-lines
invariant-lines l = l.self ≡ l.initial.self ++ flat_map option_to_list (take l.line-index l.told)
