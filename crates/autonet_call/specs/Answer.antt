-- The result of a command: a status that has its reason, and was reported.

use Rattle.std.specs.Prelude.{◌≡◌, ℕ, ◌^◌, List}
use Rattle.outside.specs.Told.{Seen, GaveAtMost, Gains, GainsFront, IsKept, Failed}
use Rattle.net_script.specs.declared.cause.ScriptCause.{ScriptCause}
use Rattle.net_script.specs.declared.cause.ScriptCause.TheVariants.{TooMany}
use Rattle.net_script.specs.Steps.{ReadRefusal}
use Rattle.common_lines.specs.declared.stop.Refusal.TheVariants as refusal
use Rattle.common_call.specs.declared.input.Unread.{Unread}
use Rattle.common_call.specs.declared.input.Unread.TheVariants as no_input
use Rattle.common_call.specs.Ended.{IsLineTold}
use Rattle.common_call.specs.Inputs.{IsInput, IsUnread, most_read}
use Rattle.autonet_call.specs.declared.status.Status.{Status}
use Rattle.autonet_call.specs.declared.status.Status.TheVariants.{Ok, Usage, ScriptRefused, ReadFault, WriteFault, TablesRefused, Unsettled, EpochsSpent, JournalFull, OutOfMemory}
use Rattle.autonet_call.specs.Status.{code_of, line_of}

-- the source and the two sinks of a call at one point in time
pub record Streams : Type 0 where
  pub source : Seen
  pub out : Seen
  pub err : Seen

abbrev pub streams : Seen → Seen → Seen → Streams
streams source out err = record { source = source; out = out; err = err }

-- the most bytes of an input
abbrev pub input_limit : ℕ
input_limit = 2 ^ 28

-- the status with which a command ends, and the text that it writes, for the bytes of an input
abbrev pub Gives : Type 1
Gives = List ℕ → Status → List ℕ → Type 0

-- the status with which a command rejects the bytes of an input
abbrev pub Refuses : Type 1
Refuses = List ℕ → Status → Type 0

-- the status of an input that was not read
abbrev pub unread_as : Unread → Status
unread_as no_input.Fault = ReadFault
unread_as (no_input.TooLong line) = ScriptRefused line TooMany
unread_as no_input.OutOfMemory = OutOfMemory

-- why there is no text to write: there is no input, it is rejected, or memory runs out
pub data IsStop (limit : ℕ) (refuses : Refuses) (old new : Seen) (status : Status) : Type 0 where
  unread : (why : Unread) → status ≡ unread_as why → IsUnread limit old new why → IsStop limit refuses old new status
  refused : IsInput limit (λ bytes. refuses bytes status) old new → IsStop limit refuses old new status
  want : status ≡ OutOfMemory → GaveAtMost old new (most_read limit) → IsStop limit refuses old new status

-- the statuses of a call that wrote its text
abbrev pub IsEnding : Status → Type 0
IsEnding Ok = Unit {0}
IsEnding TablesRefused = Unit {0}
IsEnding (Unsettled tick) = Unit {0}
IsEnding (EpochsSpent name) = Unit {0}
IsEnding JournalFull = Unit {0}
IsEnding status = ⊥

-- the text for the input was written to `out`
pub record IsGiven (limit : ℕ) (gives : Gives) (source source' out out' : Seen) (status : Status)
    : Type 0 where
  pub text : List ℕ
  pub input : IsInput limit (λ bytes. gives bytes status text) source source'
  pub gains : Gains out out' text
  pub ends : IsEnding status

-- `out` failed, and has a prefix of the text for the input
pub record IsCutOff (limit : ℕ) (gives : Gives) (source source' out out' : Seen) : Type 0 where
  pub end : Status
  pub text : List ℕ
  pub input : IsInput limit (λ bytes. gives bytes end text) source source'
  pub gains : GainsFront out out' text
  pub failed : Failed out out'

-- The reason for a status, and what `out` gained: the text, a prefix of it if `out` failed, otherwise nothing.
pub data IsCause (limit : ℕ) (gives : Gives) (refuses : Refuses) (source source' out out' : Seen)
    (status : Status) : Type 0 where
  given : IsGiven limit gives source source' out out' status
      → IsCause limit gives refuses source source' out out' status
  cut : status ≡ WriteFault → IsCutOff limit gives source source' out out'
      → IsCause limit gives refuses source source' out out' status
  stopped : IsStop limit refuses source source' status → IsKept out out'
      → IsCause limit gives refuses source source' out out' status

-- a status was reported: the result is its number, and the sink gained its line, unless the sink failed
abbrev pub IsTold : (old new : Seen) → Status → (answer : ℕ) → Type 0
IsTold old new status answer = IsLineTold old new (code_of status) (line_of status) answer

-- the result of a command that reads an input: a status that has its reason, and was reported
pub record IsAnswer (limit : ℕ) (gives : Gives) (refuses : Refuses) (old new : Streams) (answer : ℕ)
    : Type 0 where
  pub status : Status
  pub cause : IsCause limit gives refuses old.source new.source old.out new.out status
  pub told : IsTold old.err new.err status answer

-- the result for arguments that are not a command: the source is unread and `out` unchanged
pub record IsUsageAnswer (old new : Streams) (answer : ℕ) : Type 0 where
  pub source : new.source ≡ old.source
  pub out : new.out ≡ old.out
  pub told : IsTold old.err new.err Usage answer

-- the status of a rejected script
abbrev pub refused_as : ReadRefusal → Status
refused_as (refusal.Fault line cause) = ScriptRefused line cause
refused_as refusal.OutOfMemory = OutOfMemory

-- the line and the reason of a rejected script satisfy the predicate
abbrev pub IfRefused : Status → (ℕ → ScriptCause → Type 0) → Type 0
IfRefused (ScriptRefused line cause) Holds = Holds line cause
IfRefused status Holds = ⊥

-- no input is rejected
abbrev pub refuses_nothing : Refuses
refuses_nothing bytes status = ⊥
