-- What commands give for a text whose script is known, and the journal after it.

use Rattle.std.specs.Prelude.{◌≡◌, ℕ, List}
use Rattle.an_base.specs.declared.event.Event.{Event}
use Rattle.net_script.specs.Scripts.{ScriptOf}
use Rattle.report.specs.Beliefs.{AreNames}
use Rattle.autonet_call.specs.declared.status.Status.{Status}
use Rattle.autonet_call.specs.declared.status.Status.TheVariants.{Ok}
use Rattle.autonet_call.specs.Answer.{Gives}
use Rattle.commands.specs.Reported.{IsReported}

-- `replay`: the report of the journal, with the status of its end
abbrev pub gives_report_of : ScriptOf → List Event → Gives
gives_report_of script journal bytes status text = IsReported script journal status text

-- `names`: what hosts believe in the journal, with status 0
abbrev pub gives_names_of : ScriptOf → List Event → Gives
gives_names_of script journal bytes status text = (status ≡ Ok) × AreNames script journal text

-- `replay` of the journal of a run: the report of the run, with its status
abbrev pub gives_text : Status → List ℕ → Gives
gives_text end report bytes status text = (status ≡ end) × (text ≡ report)
