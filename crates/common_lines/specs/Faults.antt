use Rattle.std.specs.Prelude.{◌≡◌, Bool, List, [], ◌∷◌, Option, Some, None, Result, Ok, Err, if◌then◌else◌}
use Rattle.std.specs.Option.{option_or}

-- The error in a part of a text: none, or a cause.

-- `cause`, unless `holds`
abbrev pub unless : {Cause : Type 0} → Bool → Cause → Option Cause
unless holds cause = if holds then None else Some cause

-- the first cause in a list, if there is one
abbrev pub first_of : {Cause : Type 0} → List (Option Cause) → Option Cause
first_of [] = None
first_of (cause ∷ causes) = option_or cause (first_of causes)

-- the result is `value` if there is no cause; otherwise it is the error `cause`
abbrev pub IsField : {Value Cause : Type 0} → Result Value Cause → Option Cause → Value → Type 0
IsField (Ok found) cause value = (cause ≡ None) × (found ≡ value)
IsField (Err found) cause value = cause ≡ Some found

-- the result is a value that is `good` if there is no cause; otherwise it is the error `cause`
abbrev pub IsGoodField :
    {Value Cause : Type 0} → Result Value Cause → Option Cause → (Value → Type 0) → Type 0
IsGoodField (Ok found) cause good = (cause ≡ None) × good found
IsGoodField (Err found) cause good = cause ≡ Some found

-- the result is Ok if there is no cause; otherwise it is the error `cause`
abbrev pub IsTest : {Done Cause : Type 0} → Result Done Cause → Option Cause → Type 0
IsTest (Ok done) cause = cause ≡ None
IsTest (Err found) cause = cause ≡ Some found
