use Rattle.std.proofs.Common.{◌≡◌, ◌++◌, take}
use Rattle.fabric_print.proofs.WordLemmas.{spaced}
use Rattle.fabric_print.proofs.row.push_row.Given as goal

-- the words so far
abbrev pub invariant-words : goal.invariant-words
invariant-words l = l.text.items ≡ l.initial.text.items ++ spaced (take l.word-index l.more)
