-- The commands that read only a script: what they say of it, and when they reject it.

use Rattle.std.specs.Prelude.{◌≡◌, ℕ, List}
use Rattle.net_script.specs.Scripts.{ScriptOf}
use Rattle.net_script.specs.Texts.{IsText, IsFault}
use Rattle.autonet_call.specs.declared.status.Status.TheVariants.{Ok}
use Rattle.autonet_call.specs.Answer.{Gives, IfRefused, Refuses}

-- which texts a command says of a script
abbrev pub Says : Type 1
Says = ScriptOf → List ℕ → Type 0

-- `bytes` is the text of a script, and `says` holds of it and `text`
pub record IsSaidOf (says : Says) (text bytes : List ℕ) : Type 0 where
  pub script : ScriptOf
  pub is_text : IsText bytes script
  pub said : says script text

-- a command gives the text that `says` accepts for the script, with status 0
abbrev pub gives_said : Says → Gives
gives_said says bytes status text = (status ≡ Ok) × IsSaidOf says text bytes

-- bytes that are not a script are rejected for their first error
abbrev pub refuses_script : Refuses
refuses_script bytes status = IfRefused status (IsFault bytes)
