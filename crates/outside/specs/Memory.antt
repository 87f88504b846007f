-- The source and the sink in memory: what each of their calls returns, and their state after it.

use Rattle.std.specs.Prelude.{◌==◌, ◌||◌, ℕ, ◌+◌, ◌-◌, ◌^◌, List, ◌++◌, Bool, Some, length, take, drop, min}
use Rattle.std.specs.Prelude.{if◌then◌else◌}
use Rattle.std.specs.List.{list_any}
use Rattle.outside.specs.Told.{Seen}
use Rattle.outside.specs.declared.source.Got.{Got}
use Rattle.outside.specs.declared.source.Got.TheVariants.{Part, End, Failed}
use Rattle.outside.specs.declared.sink.Took.{Took}
use Rattle.outside.specs.declared.sink.Took.TheVariants.{Part as TookPart, Failed as TookFailed}

-- a source in memory: the bytes left, the numbers of the calls that fail, how many calls and failures there were, and
-- the most bytes that one call gives
pub record SourceState : Type 0 where
  pub left : List ℕ
  pub failing : List ℕ
  pub calls : ℕ
  pub faults : ℕ
  pub cut : ℕ

-- a sink in memory: the bytes written, the space left, the numbers of the calls that fail, how many calls and failures
-- there were
pub record SinkState : Type 0 where
  pub written : List ℕ
  pub room : ℕ
  pub failing : List ℕ
  pub calls : ℕ
  pub faults : ℕ

-- what is seen of a source or a sink in memory: the bytes left or written are known
abbrev pub seen_source : SourceState → Seen
seen_source source = record { told = Some source.left; faults = source.faults }

abbrev pub seen_sink : SinkState → Seen
seen_sink sink = record { told = Some sink.written; faults = sink.faults }

-- `count` + 1; a count of 64 bits stays at its highest value
abbrev pub counted : ℕ → ℕ
counted count = min (count + 1) (2 ^ 64 - 1)

-- whether `failing` lists the call after the first `calls`
abbrev pub is_listed : List ℕ → ℕ → Bool
is_listed failing calls = list_any (λ call. call == counted calls) failing

-- the number of bytes that a read into `most` bytes gives if it does not fail
abbrev pub read_size : SourceState → ℕ → ℕ
read_size source most = min (min (length source.left) most) source.cut

-- the result of a read into `most` bytes
abbrev pub read_answer : SourceState → ℕ → Got
read_answer source most =
    if is_listed source.failing source.calls then Failed
    else (if length source.left == 0 then End else Part (read_size source most))

-- `source` after a read into `most` bytes
abbrev pub after_read : SourceState → ℕ → SourceState
after_read source most =
    if is_listed source.failing source.calls
    then record source { calls = counted source.calls; faults = counted source.faults }
    else record source { calls = counted source.calls; left = drop (read_size source most) source.left }

-- whether the next write fails: its number is listed, or no space is left
abbrev pub is_refused : SinkState → Bool
is_refused sink = is_listed sink.failing sink.calls || (sink.room == 0)

-- the result of a write of `bytes`: if it does not fail, it takes what fits
abbrev pub write_answer : SinkState → List ℕ → Took
write_answer sink bytes = if is_refused sink then TookFailed else TookPart (min (length bytes) sink.room)

-- `sink` after a write of `bytes`
abbrev pub after_write : SinkState → List ℕ → SinkState
after_write sink bytes =
    if is_refused sink
    then record sink { calls = counted sink.calls; faults = counted sink.faults }
    else record sink {
      calls = counted sink.calls;
      written = sink.written ++ take sink.room bytes;
      room = sink.room - length bytes;
    }
