-- What commands give for a text whose script is known, and its tables.

use Rattle.std.specs.Prelude.{◌≡◌, ℕ, Bool}
use Rattle.net_script.specs.Scripts.{ScriptOf}
use Rattle.table_script.specs.Tables.{TablesOf}
use Rattle.check_text.specs.Check.{IsJudged}
use Rattle.expect_text.specs.Expect.{IsExpectOf}
use Rattle.flood_text.specs.Floods.{IsFloodOf}
use Rattle.flow_text.specs.Flows.{IsFlowOf}
use Rattle.autonet_call.specs.declared.status.Status.TheVariants.{Ok}
use Rattle.autonet_call.specs.Answer.{Gives}
use Rattle.autonet_file_commands.specs.Check.{status_of}

-- `expect`: what is expected of the script, with status 0
abbrev pub gives_expected_of : ScriptOf → Gives
gives_expected_of script bytes status text = (status ≡ Ok) × IsExpectOf script text

-- `flood`: how broadcasts spread in the script's network, with status 0
abbrev pub gives_flooded_of : ScriptOf → Gives
gives_flooded_of script bytes status text = (status ≡ Ok) × IsFloodOf script text

-- `flow B`: what happens to the script's packets if each channel holds B packets, with status 0
abbrev pub gives_flow_of : ScriptOf → ℕ → Gives
gives_flow_of script room bytes status text = (status ≡ Ok) × IsFlowOf script room text

-- `check`: the result of checking the tables of the script
abbrev pub gives_judged_of : ScriptOf → TablesOf → Gives
gives_judged_of script tables bytes status text =
    (passed : Bool) × (status ≡ status_of passed) × IsJudged script tables passed text
