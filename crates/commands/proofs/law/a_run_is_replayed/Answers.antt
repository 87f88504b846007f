use Rattle.commands.proofs.BehindLemmas.{run_is_replayed}
use Rattle.commands.proofs.law.a_run_is_replayed.Goals as goal

pub returns : goal.returns
returns c = run_is_replayed
