use Rattle.std.specs.Prelude.{◌≡◌, ℕ, Option, None, Result, Ok, Err, ⊤}
use Rattle.common_lines.specs.declared.stop.Stop.{Stop}
use Rattle.common_lines.specs.declared.stop.Stop.TheVariants.{Fault, OutOfMemory}
use Rattle.common_lines.specs.declared.stop.Refusal.{Refusal}
use Rattle.common_lines.specs.declared.stop.Refusal.TheVariants as refusal

-- Why a reader stops.

-- the step succeeds and `good` holds, or it stops for a cause that is `faulty`, or it is out of memory
abbrev pub IsStep : {Done Cause : Type 0} → Result Done (Stop Cause) → Type 0 → (Cause → Type 0) → Type 0
IsStep (Ok done) good faulty = good
IsStep (Err (Fault cause)) good faulty = faulty cause
IsStep (Err OutOfMemory) good faulty = ⊤

-- the text is rejected for its first error, or because memory ran out
abbrev pub IsRefusalBy : {Cause : Type 0} → (ℕ → Cause → Type 0) → Refusal Cause → Type 0
IsRefusalBy fault (refusal.Fault line cause) = fault line cause
IsRefusalBy fault refusal.OutOfMemory = ⊤

-- the reason for rejecting a text that stopped at `line`
abbrev pub refusal_at : {Cause : Type 0} → ℕ → Stop Cause → Refusal Cause
refusal_at line (Fault cause) = refusal.Fault line cause
refusal_at line OutOfMemory = refusal.OutOfMemory

-- a line of `form` is read: it has no error in `state`, and `after` is `state` with what the form adds
abbrev pub ReadsFormBy :
    {Form State Cause : Type 0} → (State → Form → Option Cause) → (State → Form → State) → State → Form
    → State → Type 0
ReadsFormBy cause_of with_form state form after =
    (cause_of state form ≡ None) × (after ≡ with_form state form)
