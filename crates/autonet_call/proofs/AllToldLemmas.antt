-- The answer of a command to a source that tells its bytes, of which is known what the command gives.
use Rattle.std.proofs.Common.{◌≡◌, ◌∙◌, sym, subst, ℕ, List, [], ◌++◌, append-nil, Some, None, IfSome}
use Rattle.outside.specs.Told.{Told, Gave, IsAtEnd, with_front}
use Rattle.net_script.specs.declared.cause.ScriptCause.{ScriptCause}
use Rattle.common_call.specs.Inputs.{IsInput}
use Rattle.autonet_call.specs.declared.status.Status.{Status}
use Rattle.autonet_call.specs.declared.status.Status.TheVariants.{Ok, Usage, ScriptRefused, ReadFault, WriteFault, TablesRefused, Unsettled, EpochsSpent, JournalRefused, JournalFull, OutOfMemory}
use Rattle.autonet_call.specs.Answer.{Gives, IfRefused, Refuses, Streams, IsAnswer, IsCause, IsStop, input_limit, refuses_nothing, given, cut, stopped, unread, refused, want}

-- bytes that have no fault are not refused
pub not_refused : (status : Status) (Holds : ℕ → ScriptCause → Type 0) → ((line : ℕ) (cause : ScriptCause) → Holds line cause → ⊥) → IfRefused status Holds → ⊥
not_refused (ScriptRefused line cause) Holds none fault = none line cause fault
not_refused Ok Holds none fault = fault
not_refused Usage Holds none fault = fault
not_refused ReadFault Holds none fault = fault
not_refused WriteFault Holds none fault = fault
not_refused TablesRefused Holds none fault = fault
not_refused (Unsettled tick) Holds none fault = fault
not_refused (EpochsSpent name) Holds none fault = fault
not_refused (JournalRefused at why) Holds none fault = fault
not_refused JournalFull Holds none fault = fault
not_refused OutOfMemory Holds none fault = fault

-- a source that is at its end gave all that it told
gave_all : (bytes whole : List ℕ) (left : Told) → Some whole ≡ with_front bytes left → IfSome left (λ rest. rest ≡ []) → bytes ≡ whole
gave_all bytes whole None gave end = absurd (cc)
gave_all bytes whole (Some rest) gave end =
    let all : Some whole ≡ Some (bytes ++ []) = subst (λ (r : List ℕ). Some whole ≡ Some (bytes ++ r)) end gave in
    let same : whole ≡ bytes ++ [] = cc in
    sym (same ∙ append-nil bytes)

-- where it gives for all the bytes what is wanted, and does not refuse them, that is its answer
module _ (gives wanted : Gives) (refuses : Refuses) (whole : List ℕ) (old new : Streams)
    (told : old.source.told ≡ Some whole)
    (gives_it : (status : Status) (text : List ℕ) → gives whole status text → wanted whole status text)
    (never : (status : Status) → refuses whole status → ⊥) where
  is_whole : (bytes : List ℕ) → Gave old.source new.source bytes → IsAtEnd new.source → bytes ≡ whole
  is_whole bytes gave end = gave_all bytes whole new.source.told (sym told ∙ gave) end

  input_wanted : (status : Status) (text : List ℕ) → IsInput input_limit (λ b. gives b status text) old.source new.source → IsInput input_limit (λ b. wanted b status text) old.source new.source
  input_wanted status text input =
      let same = is_whole input.bytes input.gave input.end in
      record {
        bytes = input.bytes;
        gave = input.gave;
        end = input.end;
        within = input.within;
        holds = subst (λ (b : List ℕ). wanted b status text) (sym same) (gives_it status text (subst (λ (b : List ℕ). gives b status text) same input.holds));
      }

  stop_wanted : (status : Status) → IsStop input_limit refuses old.source new.source status → IsStop input_limit refuses_nothing old.source new.source status
  stop_wanted status (unread why is u) = unread why is u
  stop_wanted status (refused input) = absurd (never status (subst (λ (b : List ℕ). refuses b status) (is_whole input.bytes input.gave input.end) input.holds))
  stop_wanted status (want is taken) = want is taken

  cause_wanted : (status : Status) → IsCause input_limit gives refuses old.source new.source old.out new.out status → IsCause input_limit wanted refuses_nothing old.source new.source old.out new.out status
  cause_wanted status (given g) = given (record { text = g.text; input = input_wanted status g.text g.input; gains = g.gains; ends = g.ends })
  cause_wanted status (cut is c) = cut is (record { end = c.end; text = c.text; input = input_wanted c.end c.text c.input; gains = c.gains; failed = c.failed })
  cause_wanted status (stopped stop kept) = stopped (stop_wanted status stop) kept

  pub answered_as : (answer : ℕ) → IsAnswer input_limit gives refuses old new answer → IsAnswer input_limit wanted refuses_nothing old new answer
  answered_as answer is = record { status = is.status; cause = cause_wanted is.status is.cause; told = is.told }
