-- The result of the program for the arguments of a call.

use Rattle.std.specs.Prelude.{◌≡◌, ◌≢◌, ℕ, List, [], ◌∷◌, codes}
use Rattle.autonet_call.specs.Answer.{Streams, IsAnswer, IsUsageAnswer, input_limit}
use Rattle.autonet_file_commands.specs.Flow.{AreFlowWords}
use Rattle.commands.specs.Gen.{AreGenWords, IsGenAnswer}
use Rattle.commands.specs.Names.{gives_names}
use Rattle.commands.specs.Replay.{gives_replayed, refuses_journal}
use Rattle.commands.specs.Run.{gives_run}
use Rattle.autonet_call.specs.Scripted.{refuses_script}
use Rattle.autonet_call.specs.Expect.{IsExpectAnswer}
use Rattle.autonet_file_commands.specs.Answers.{IsCheckAnswer, IsFloodAnswer, IsFlowAnswer}

-- the result of `replay`
abbrev pub IsReplayAnswer : Streams → Streams → ℕ → Type 0
IsReplayAnswer old new answer = IsAnswer input_limit gives_replayed refuses_journal old new answer

-- the result of `run`
abbrev pub IsRunAnswer : Streams → Streams → ℕ → Type 0
IsRunAnswer old new answer = IsAnswer input_limit gives_run refuses_script old new answer

-- the result of `names`
abbrev pub IsNamesAnswer : Streams → Streams → ℕ → Type 0
IsNamesAnswer old new answer = IsAnswer input_limit gives_names refuses_journal old new answer

-- the result for `words`: that of the command that they name, and the usage line if they name none
pub record IsAnswerTo (words : List (List ℕ)) (old new : Streams) (answer : ℕ) : Type 0 where
  pub expect : words ≡ codes "expect" ∷ [] → IsExpectAnswer old new answer
  pub check : words ≡ codes "check" ∷ [] → IsCheckAnswer old new answer
  pub flood : words ≡ codes "flood" ∷ [] → IsFloodAnswer old new answer
  pub flow : (room : ℕ) → AreFlowWords words room → IsFlowAnswer room old new answer
  pub run : words ≡ codes "run" ∷ [] → IsRunAnswer old new answer
  pub replay : words ≡ codes "replay" ∷ [] → IsReplayAnswer old new answer
  pub names : words ≡ codes "names" ∷ [] → IsNamesAnswer old new answer
  pub gen : (seed count : ℕ) → AreGenWords words seed count → IsGenAnswer seed count old new answer
  pub usage : words ≢ codes "expect" ∷ [] → words ≢ codes "check" ∷ [] → words ≢ codes "flood" ∷ []
      → words ≢ codes "run" ∷ [] → words ≢ codes "replay" ∷ [] → words ≢ codes "names" ∷ []
      → ((room : ℕ) → ¬ AreFlowWords words room)
      → ((seed count : ℕ) → ¬ AreGenWords words seed count) → IsUsageAnswer old new answer
