-- The command `run`: the journal of a run of a script's network, and the report of that journal.

use Rattle.std.specs.Prelude.{◌≡◌, ℕ, List, ◌++◌, All}
use Rattle.an_base.specs.declared.event.Event.{Event}
use Rattle.net_script.specs.Scripts.{ScriptOf}
use Rattle.net_script.specs.Texts.{IsText}
use Rattle.journal.specs.Events.{CanSpell, journal_text}
use Rattle.net_world.specs.Histories.{IsLegal}
use Rattle.net_settling.specs.Claims.{HoldsAndSettles}
use Rattle.fabric_book.specs.Accounts.{AreAccounts}
use Rattle.switch_threads.specs.declared.running.Told.{Told}
use Rattle.autonet_call.specs.declared.status.Status.{Status}
use Rattle.autonet_call.specs.Answer.{Gives}
use Rattle.commands.specs.Reported.{IsReported}

-- The run is legal, all that is claimed of a history holds of its journal, and its accounts belong to it.
pub record IsToldRun (script : ScriptOf) (told : Told) : Type 0 where
  pub legal : IsLegal script told.run.journal told.run.end
  pub claims : HoldsAndSettles script told.run.journal
  pub accounts : AreAccounts script told.run.journal told.accounts.items

-- `text` is that of a legal journal and, after it, its report; all that is claimed of a history holds of the
-- journal, and `status` is that of its end.
pub record IsRun (script : ScriptOf) (status : Status) (text : List ℕ) : Type 0 where
  pub journal : List Event
  pub report : List ℕ
  pub spelled : All (CanSpell script) journal
  pub parts : text ≡ journal_text script journal ++ report
  pub reported : IsReported script journal status report

-- `bytes` is the text of a script, and `text` is that of a run of its network
pub record IsRunOf (status : Status) (text bytes : List ℕ) : Type 0 where
  pub script : ScriptOf
  pub is_text : IsText bytes script
  pub run : IsRun script status text

-- `run` gives the journal and the report
abbrev pub gives_run : Gives
gives_run bytes status text = IsRunOf status text bytes

-- `run` gives the journal and the report of a run of the network of this script
abbrev pub gives_run_of : ScriptOf → Gives
gives_run_of script bytes status text = IsRun script status text
