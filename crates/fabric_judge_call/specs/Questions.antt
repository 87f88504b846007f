-- The answer to a question about tables.

use Rattle.std.specs.Prelude.{◌≡◌, ◌^◌, ℕ, List}
use Rattle.outside.specs.Told.{Seen}
use Rattle.common_call.specs.declared.input.Unread.{Unread}
use Rattle.common_call.specs.declared.input.Unread.TheVariants as no_input
use Rattle.common_call.specs.Inputs.{IsInput, IsUnread}
use Rattle.fabric_model.specs.declared.traffic.Traffic.{Traffic}
use Rattle.fabric_call.specs.Answer.{IsAnswer, Streams}
use Rattle.fabric_call.specs.declared.status.Status.{Status}
use Rattle.fabric_call.specs.declared.status.Status.TheVariants.{OutOfMemory, RanksTooLong, ReadFault}
use Rattle.fabric_call.specs.Status.{IsToldOf}
use Rattle.fabric_judge_commands.specs.Given.{gives_drawn, gives_judged, gives_ranks, gives_verified}
use Rattle.fabric_judge_call.specs.declared.words.Question.{Question}
use Rattle.fabric_judge_call.specs.declared.words.Question.TheVariants.{Judge, Ranks, Verify, Dot}

-- the most bytes of ranks
abbrev pub ranks_limit : ℕ
ranks_limit = 2 ^ 28

-- the status of ranks that were not read
abbrev pub ranks_unread_as : Unread → Status
ranks_unread_as no_input.Fault = ReadFault
ranks_unread_as (no_input.TooLong line) = RanksTooLong line
ranks_unread_as no_input.OutOfMemory = OutOfMemory

-- `verify` reads the source of ranks to its end before the other sources; or it did not, and these are left alone
pub record AreRanksRead (traffic : Traffic) (ranks ranks' : Seen) (old new : Streams) (answer : ℕ) : Type 0 where
  pub bytes : List ℕ
  pub read : IsInput ranks_limit (λ input. input ≡ bytes) ranks ranks'
  pub answers : IsAnswer (gives_verified traffic bytes) old new answer

pub record IsNotRead (ranks ranks' : Seen) (old new : Streams) (answer : ℕ) : Type 0 where
  pub why : Unread
  pub unread : IsUnread ranks_limit ranks ranks' why
  pub kept : new.read ≡ old.read
  pub out : new.out ≡ old.out
  pub told : IsToldOf old.err new.err (ranks_unread_as why) answer

pub data IsVerifyAnswer (traffic : Traffic) (ranks ranks' : Seen) (old new : Streams) (answer : ℕ) : Type 0 where
  read : AreRanksRead traffic ranks ranks' old new answer → IsVerifyAnswer traffic ranks ranks' old new answer
  not_read : IsNotRead ranks ranks' old new answer → IsVerifyAnswer traffic ranks ranks' old new answer

-- the answer to a question
abbrev pub IsAnswerToQuestion : Question → Traffic → (ranks ranks' : Seen) → (old new : Streams) → ℕ → Type 0
IsAnswerToQuestion Judge traffic ranks ranks' old new answer =
    (ranks' ≡ ranks) × IsAnswer (gives_judged traffic) old new answer
IsAnswerToQuestion Ranks traffic ranks ranks' old new answer =
    (ranks' ≡ ranks) × IsAnswer (gives_ranks traffic) old new answer
IsAnswerToQuestion Dot traffic ranks ranks' old new answer =
    (ranks' ≡ ranks) × IsAnswer (gives_drawn traffic) old new answer
IsAnswerToQuestion Verify traffic ranks ranks' old new answer = IsVerifyAnswer traffic ranks ranks' old new answer
