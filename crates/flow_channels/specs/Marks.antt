-- Sets of numbers, by their bits.
use Rattle.std.specs.Prelude.{◌≡◌, ◌≢◌, ◌<◌, ◌/◌, ◌%◌, ◌↔◌, ℕ, List, length, map, slice_index}
use Rattle.std.specs.List.{range_with_len}
use Rattle.std.specs.Int.{bit_at}

-- the bit of each number below 2,048, in its part of 64 bits
abbrev pub spot_marks : List ℕ → List ℕ
spot_marks parts =
    map (λ place. bit_at (slice_index parts (place / 64)) (place % 64)) (range_with_len 0 2048)

-- there are 32 parts, and `some` has a bit for each part that is not 0
pub record HasParts (parts : List ℕ) (some : ℕ) : Type 0 where
  pub count : length parts ≡ 32
  pub each : (part : ℕ) → part < 32 → ((bit_at some part ≡ 1) ↔ (slice_index parts part ≢ 0))
