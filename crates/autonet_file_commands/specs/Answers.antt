-- The results of the commands that need only a network file, or a network file with its tables.

use Rattle.std.specs.Prelude.{◌≡◌, ◌≢◌, ℕ, List, [], ◌∷◌, codes}
use Rattle.autonet_call.specs.Answer.{Streams, IsAnswer, input_limit}
use Rattle.autonet_file_commands.specs.Check.{gives_judged, refuses_tables}
use Rattle.autonet_file_commands.specs.Flood.{gives_flooded}
use Rattle.autonet_file_commands.specs.Flow.{AreFlowWords, gives_flow}
use Rattle.autonet_call.specs.Scripted.{refuses_script}
use Rattle.autonet_call.specs.Expect.{IsExpectAnswer}
use Rattle.autonet_file_commands.specs.declared.file.FileCommand.{FileCommand}
use Rattle.autonet_file_commands.specs.declared.file.FileCommand.TheVariants.{Check, Expect, Flood, Flow}

-- the result of `check`
abbrev pub IsCheckAnswer : Streams → Streams → ℕ → Type 0
IsCheckAnswer old new answer = IsAnswer input_limit gives_judged refuses_tables old new answer

-- the result of `flood`
abbrev pub IsFloodAnswer : Streams → Streams → ℕ → Type 0
IsFloodAnswer old new answer = IsAnswer input_limit gives_flooded refuses_script old new answer

-- the result of `flow B`
abbrev pub IsFlowAnswer : ℕ → Streams → Streams → ℕ → Type 0
IsFlowAnswer room old new answer = IsAnswer input_limit (gives_flow room) refuses_script old new answer

-- the arguments name the command
abbrev pub AreWordsOf : FileCommand → List (List ℕ) → Type 0
AreWordsOf Expect words = words ≡ codes "expect" ∷ []
AreWordsOf Check words = words ≡ codes "check" ∷ []
AreWordsOf Flood words = words ≡ codes "flood" ∷ []
AreWordsOf (Flow room) words = AreFlowWords words room.packets

-- `words` name none of these commands
pub record AreOthers (words : List (List ℕ)) : Type 0 where
  pub expect : words ≢ codes "expect" ∷ []
  pub check : words ≢ codes "check" ∷ []
  pub flood : words ≢ codes "flood" ∷ []
  pub flow : (room : ℕ) → ¬ AreFlowWords words room

-- the result of a command
abbrev pub IsFileAnswer : FileCommand → Streams → Streams → ℕ → Type 0
IsFileAnswer Expect old new answer = IsExpectAnswer old new answer
IsFileAnswer Check old new answer = IsCheckAnswer old new answer
IsFileAnswer Flood old new answer = IsFloodAnswer old new answer
IsFileAnswer (Flow room) old new answer = IsFlowAnswer room.packets old new answer
