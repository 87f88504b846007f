-- The command `expect`: the trees, numbers and tables of the network of a script.

use Rattle.std.specs.Prelude.{ℕ, List}
use Rattle.expect_text.specs.Expect.{IsExpectOf}
use Rattle.autonet_call.specs.Answer.{Gives, IsAnswer, Streams, input_limit}
use Rattle.autonet_call.specs.Scripted.{IsSaidOf, gives_said, refuses_script}

-- the bytes are the text of a script of which this text is expected
abbrev pub IsExpectedOf : List ℕ → List ℕ → Type 0
IsExpectedOf text bytes = IsSaidOf IsExpectOf text bytes

-- `expect` gives the text that is expected, with status 0
abbrev pub gives_expected : Gives
gives_expected bytes status text = gives_said IsExpectOf bytes status text

-- the result of `expect`
abbrev pub IsExpectAnswer : Streams → Streams → ℕ → Type 0
IsExpectAnswer old new answer = IsAnswer input_limit gives_expected refuses_script old new answer
