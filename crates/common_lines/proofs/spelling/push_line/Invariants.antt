use Rattle.std.proofs.Common.{◌≡◌, ◌++◌, map, take}
use Rattle.std.specs.List.{join_with_byte}
use Rattle.common_lines.proofs.spelling.push_line.Given as goal

-- the words so far were appended
abbrev pub invariant-words : goal.invariant-words
invariant-words l = l.text.items ≡ l.fn.text.items ++ join_with_byte 32 (take l.i (map (λ w. w.now) l.words))
