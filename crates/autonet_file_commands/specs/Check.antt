-- The command `check`: the result of checking the routing tables that follow a script.

use Rattle.std.specs.Prelude.{◌≡◌, ℕ, List, Bool, true, false}
use Rattle.net_script.specs.Scripts.{ScriptOf}
use Rattle.table_script.specs.Tables.{TablesOf}
use Rattle.table_script.specs.TableTexts.{IsTextWith, IsFaultWith}
use Rattle.check_text.specs.Check.{IsJudged}
use Rattle.autonet_call.specs.declared.status.Status.{Status}
use Rattle.autonet_call.specs.declared.status.Status.TheVariants.{Ok, TablesRefused}
use Rattle.autonet_call.specs.Answer.{Gives, IfRefused, Refuses}

-- `bytes` is the text of a script with tables, and `text` is the result of checking them
pub record IsJudgedOf (passed : Bool) (text bytes : List ℕ) : Type 0 where
  pub script : ScriptOf
  pub tables : TablesOf
  pub is_text : IsTextWith bytes script tables
  pub judged : IsJudged script tables passed text

-- the status of tables that pass, and of those that do not
abbrev pub status_of : Bool → Status
status_of true = Ok
status_of false = TablesRefused

-- `check` gives the text of the result, with its status
abbrev pub gives_judged : Gives
gives_judged bytes status text = (passed : Bool) × (status ≡ status_of passed) × IsJudgedOf passed text bytes

-- bytes that are not a script with tables are rejected for their first error
abbrev pub refuses_tables : Refuses
refuses_tables bytes status = IfRefused status (IsFaultWith bytes)

-- the tables pass, and the text says so
abbrev pub gives_passing : Gives
gives_passing bytes status text = (status ≡ Ok) × IsJudgedOf true text bytes
