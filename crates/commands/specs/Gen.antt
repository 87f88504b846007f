-- The command `gen SEED N`: a script that is made from a seed.

use Rattle.std.specs.Prelude.{◌≡◌, ◌-◌, ◌^◌, ℕ, List, [], ◌∷◌, ◌++◌, true, codes}
use Rattle.outside.specs.Told.{Seen, Gains, GainsFront, IsKept, Failed}
use Rattle.common_lines.specs.Words.{is_number_in, number_value}
use Rattle.net_script.specs.Texts.{IsText}
use Rattle.script_text.specs.Canonical.{canonical_text}
use Rattle.net_gen.specs.Generated.{generated}
use Rattle.net_gen.specs.Summary.{IsSummary}
use Rattle.autonet_call.specs.declared.status.Status.{Status}
use Rattle.autonet_call.specs.declared.status.Status.TheVariants.{Ok, WriteFault, OutOfMemory}
use Rattle.autonet_call.specs.Answer.{Streams, IsTold}

-- `words` are `gen SEED N`, with a seed below 2^64 and N from 1 to 100
pub record AreGenWords (words : List (List ℕ)) (seed count : ℕ) : Type 0 where
  pub seed_word : List ℕ
  pub count_word : List ℕ
  pub words_are : words ≡ codes "gen" ∷ seed_word ∷ count_word ∷ []
  pub seed_range : is_number_in 0 (2 ^ 64 - 1) seed_word ≡ true
  pub seed_is : seed ≡ number_value seed_word
  pub count_range : is_number_in 1 100 count_word ≡ true
  pub count_is : count ≡ number_value count_word

-- `text` is that of the script, and after it the line about how its run on one thread ends; so it is a network file
-- of the script.
pub record IsGenerated (seed count : ℕ) (text : List ℕ) : Type 0 where
  pub line : List ℕ
  pub says : text ≡ canonical_text (generated seed count) ++ line
  pub summary : IsSummary (generated seed count) line
  pub is_text : IsText text (generated seed count)

-- `out` failed, and has a prefix of that text
pub record IsGenCutOff (seed count : ℕ) (old new : Seen) : Type 0 where
  pub text : List ℕ
  pub is_generated : IsGenerated seed count text
  pub gains : GainsFront old new text
  pub failed : Failed old new

-- The reason for a status, and what `out` gained: the text, a prefix of it if `out` failed, and nothing if memory
-- ran out.
pub data IsGenCause (seed count : ℕ) (old new : Seen) (status : Status) : Type 0 where
  given : status ≡ Ok → (text : List ℕ) → IsGenerated seed count text → Gains old new text
      → IsGenCause seed count old new status
  cut : status ≡ WriteFault → IsGenCutOff seed count old new → IsGenCause seed count old new status
  want : status ≡ OutOfMemory → IsKept old new → IsGenCause seed count old new status

-- the result of `gen SEED N`: a status that has its reason, and was reported
pub record IsGenAnswerOn (seed count : ℕ) (out out' err err' : Seen) (answer : ℕ) : Type 0 where
  pub status : Status
  pub cause : IsGenCause seed count out out' status
  pub told : IsTold err err' status answer

-- as `IsGenAnswerOn`, and the source is unread
pub record IsGenAnswer (seed count : ℕ) (old new : Streams) (answer : ℕ) : Type 0 where
  pub source : new.source ≡ old.source
  pub on : IsGenAnswerOn seed count old.out new.out old.err new.err answer
