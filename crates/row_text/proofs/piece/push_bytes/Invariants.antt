use Rattle.std.proofs.Common.{◌≡◌, ◌++◌, ◌+◌, take, vec_len, vec_capacity}
use Rattle.row_text.proofs.piece.push_bytes.Given as goal

-- the bytes so far
abbrev pub invariant-bytes : goal.invariant-bytes
invariant-bytes l =
    (l.text.items ≡ l.initial.text.items ++ take l.byte-index l.bytes)
    × (vec_len l.text ≡ vec_len l.initial.text + l.byte-index)
    × (vec_capacity l.text ≡ vec_capacity l.initial.text)
