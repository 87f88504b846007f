use Rattle.commands.proofs.RunLemmas.{script_is_run}
use Rattle.commands.proofs.law.a_script_is_run.Goals as goal

pub returns : goal.returns
returns c = script_is_run
