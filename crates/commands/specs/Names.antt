-- The command `names`: what hosts believe in a journal that follows its script.

use Rattle.std.specs.Prelude.{◌≡◌, ℕ, List}
use Rattle.an_base.specs.declared.event.Event.{Event}
use Rattle.net_script.specs.Scripts.{ScriptOf}
use Rattle.report.specs.Beliefs.{AreNames}
use Rattle.autonet_call.specs.declared.status.Status.TheVariants.{Ok}
use Rattle.autonet_call.specs.Answer.{Gives}
use Rattle.commands.specs.Replay.{IsJournaled}

-- a legal journal follows a script, and `text` is what hosts believe in it
pub record AreNamesOf (text bytes : List ℕ) : Type 0 where
  pub script : ScriptOf
  pub journal : List Event
  pub read : IsJournaled bytes script journal
  pub names : AreNames script journal text

-- `names` gives what hosts believe, with status 0
abbrev pub gives_names : Gives
gives_names bytes status text = (status ≡ Ok) × AreNamesOf text bytes
