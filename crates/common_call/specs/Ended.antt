-- How a call ends: with a line on standard error, and an exit status.

use Rattle.std.specs.Prelude.{◌≡◌, ◌≢◌, ◌⊎◌, ℕ, List, []}
use Rattle.outside.specs.Told.{Seen, Gains, GainsFront, Failed}

-- the exit status of a call whose line was not completely written
abbrev pub write_fault : ℕ
write_fault = 5

-- Standard error was given `line`, and `answer` is `code`. Or it failed and was given a prefix of `line`, and `answer`
-- is the exit status of a write error.
abbrev pub IsLineTold : (old new : Seen) (code : ℕ) (line : List ℕ) (answer : ℕ) → Type 0
IsLineTold old new code line answer =
    ((answer ≡ code) × Gains old new line)
    ⊎ ((line ≢ []) × (answer ≡ write_fault) × Failed old new × GainsFront old new line)
