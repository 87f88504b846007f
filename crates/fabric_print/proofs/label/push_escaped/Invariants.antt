use Rattle.std.proofs.Common.{◌≡◌, ◌++◌, take}
use Rattle.fabric_print.specs.Pictures.{escaped}
use Rattle.fabric_print.proofs.label.push_escaped.Given as goal

-- the bytes so far
abbrev pub invariant-bytes : goal.invariant-bytes
invariant-bytes l = l.text.items ≡ l.initial.text.items ++ escaped (take l.byte-index l.name)
