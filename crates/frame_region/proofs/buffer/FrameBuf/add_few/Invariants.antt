use Rattle.std.proofs.Common.{◌≡◌, ◌++◌, ◌≤◌, take}
use Rattle.frame_region.specs.declared.buffer.TheConstants.{MOST_FRAME}
use Rattle.frame_region.proofs.buffer.FrameBuf.add_few.Given as goal

-- the bytes so far
abbrev pub invariant-bytes : goal.invariant-bytes
invariant-bytes l =
    (l.self-inside.bytes.items ≡ l.initial.self-inside.bytes.items ++ take l.byte-index l.bytes)
    × (MOST_FRAME ≤ l.self-inside.bytes.cap)
