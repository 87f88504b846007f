-- The values of lines, found step by step, and how the code returns them.
use Rattle.std.specs.Prelude.{◌≡◌, ℕ, List, length, nat_lt, Option, Some, None, Result, Ok, Err, ⊤, if◌then◌else◌}
use Rattle.common_lines.specs.declared.stop.Stop.{Stop}
use Rattle.common_lines.specs.declared.stop.Stop.TheVariants.{Fault, OutOfMemory}

-- `said`, or `cause` if `line` has more than 4,096 bytes
abbrev pub unless_long : {A Cause : Type 0} → List ℕ → Cause → Result A Cause → Result A Cause
unless_long line cause said = if nat_lt 4096 (length line) then Err cause else said

-- the next step with the value, or `cause` if there is none
abbrev pub or_cause : {A B Cause : Type 0} → Option A → Cause → (A → Result B Cause) → Result B Cause
or_cause None cause next = Err cause
or_cause (Some value) cause next = next value

-- a step, and then another step with its result
abbrev pub and_then : {A B Cause : Type 0} → Result A Cause → (A → Result B Cause) → Result B Cause
and_then (Ok found) next = next found
and_then (Err cause) next = Err cause

-- the result is `said`, a value or a reason; or memory ran out
abbrev pub IsSaid : {A Cause : Type 0} → Result A (Stop Cause) → Result A Cause → Type 0
IsSaid (Ok found) said = said ≡ Ok found
IsSaid (Err (Fault cause)) said = said ≡ Err cause
IsSaid (Err OutOfMemory) said = ⊤

-- the step succeeded as `step` says, and led to `after`; or it failed for the reason that `step` says
abbrev pub LedTo : {Done A Cause : Type 0} → Result Done Cause → A → Result A Cause → Type 0
LedTo (Ok done) after step = step ≡ Ok after
LedTo (Err cause) after step = step ≡ Err cause

-- as `LedTo`, or memory ran out
abbrev pub LedToOrWant : {Done A Cause : Type 0} → Result Done (Stop Cause) → A → Result A Cause → Type 0
LedToOrWant (Ok done) after step = step ≡ Ok after
LedToOrWant (Err (Fault cause)) after step = step ≡ Err cause
LedToOrWant (Err OutOfMemory) after step = ⊤
