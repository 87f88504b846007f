-- An input that is read whole, or the reason why there is none.

use Rattle.std.specs.Prelude.{◌≡◌, ◌==◌, ◌+◌, ◌<◌, ◌≤◌, ℕ, List, count_by, length, take}
use Rattle.outside.specs.Told.{Seen, Gave, GaveAtMost, IsAtEnd, Failed}
use Rattle.common_call.specs.declared.input.Unread.{Unread}
use Rattle.common_call.specs.declared.input.Unread.TheVariants.{Fault, TooLong, OutOfMemory}

-- The source was read to its end, and it gave at most `limit` bytes, of which `Holds` is true.
pub record IsInput (limit : ℕ) (Holds : List ℕ → Type 0) (old new : Seen) : Type 0 where
  pub bytes : List ℕ
  pub gave : Gave old new bytes
  pub end : IsAtEnd new
  pub within : length bytes ≤ limit
  pub holds : Holds bytes

-- the maximum number of bytes read: one piece more than `limit`
abbrev pub most_read : ℕ → ℕ
most_read limit = limit + 4096

-- The source gave more than `limit` bytes, and `line` is the number of the line with the first byte over it.
pub record IsOverLimit (limit : ℕ) (old new : Seen) (line : ℕ) : Type 0 where
  pub bytes : List ℕ
  pub gave : Gave old new bytes
  pub over : limit < length bytes
  pub taken : GaveAtMost old new (most_read limit)
  pub line_is : line ≡ 1 + count_by (λ byte. byte == 10) (take limit bytes)

-- Why there is no input: the source failed, after at most `limit` bytes; it gave too many bytes; or memory ran out.
abbrev pub IsUnread : (limit : ℕ) (old new : Seen) → Unread → Type 0
IsUnread limit old new Fault = Failed old new × GaveAtMost old new limit
IsUnread limit old new (TooLong line) = IsOverLimit limit old new line
IsUnread limit old new OutOfMemory = GaveAtMost old new (most_read limit)
