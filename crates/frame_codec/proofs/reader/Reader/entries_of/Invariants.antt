use Rattle.std.proofs.Common.{◌≡◌, ◌-◌, None, length}
use Rattle.std.specs.Prelude.{vec_capacity}
use Rattle.frame_codec.specs.Reading.{entries_from}
use Rattle.frame_codec.proofs.Loops.{with_front}
use Rattle.frame_codec.proofs.reader.Reader.entries_of.Given as goal

-- with the entries so far, and memory for all
abbrev pub invariant-entries : goal.invariant-entries
invariant-entries l =
    (with_front l.entries.items (entries_from l.above (l.count - l.counter) l.self) ≡ entries_from None l.count l.fn.self)
    × (length l.entries.items ≡ l.counter)
    × (vec_capacity l.entries ≡ l.count)
