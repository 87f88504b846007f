-- The source and the sink over a standard reader and writer.

use Rattle.std.specs.Prelude.{ℕ, None}
use Rattle.outside.specs.Told.{Seen}

-- what is seen of a standard reader or writer: its bytes are unknown, and it has failed `count` times
abbrev pub seen_standard : ℕ → Seen
seen_standard count = record { told = None; faults = count }
