-- The command `flow B`: what happens to the packets that a script sends if each channel holds B
-- packets.

use Rattle.std.specs.Prelude.{◌≡◌, ℕ, true, List, [], ◌∷◌, codes}
use Rattle.common_lines.specs.Words.{is_number_in, number_value}
use Rattle.flow_text.specs.Flows.{IsFlowOf}
use Rattle.autonet_call.specs.Answer.{Gives}
use Rattle.autonet_call.specs.Scripted.{gives_said}

-- `flow B` gives the text that says what happens to the packets, with status 0
abbrev pub gives_flow : ℕ → Gives
gives_flow room bytes status text = gives_said (λ script said. IsFlowOf script room said) bytes status text

-- `words` are `flow B`, with B from 1 to 16
pub record AreFlowWords (words : List (List ℕ)) (room : ℕ) : Type 0 where
  pub word : List ℕ
  pub words_are : words ≡ codes "flow" ∷ word ∷ []
  pub in_range : is_number_in 1 16 word ≡ true
  pub room_is : room ≡ number_value word
