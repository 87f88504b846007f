use Rattle.std.proofs.Common.{◌≡◌, ◌+◌, ◌*◌, ◌≤◌, ◌++◌, length, take}
use Rattle.std.specs.Prelude.{All}
use Rattle.std.specs.List.{flat_map}
use Rattle.frame_codec.specs.Spelling.{entry_bytes}
use Rattle.frame_codec.specs.Frames.{IsEntry}
use Rattle.frame_codec.proofs.writing.put_each_entry.Given as goal

abbrev pub invariant-entries : goal.invariant-entries
invariant-entries l = (l.out ≡ l.fn.out ++ flat_map entry_bytes (take l.entry-index l.entries)) × All IsEntry (take l.entry-index l.entries) × (length l.out ≤ length l.fn.out + 178 * l.entry-index)
