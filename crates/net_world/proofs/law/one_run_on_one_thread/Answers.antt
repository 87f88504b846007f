use Rattle.net_world.proofs.SoloLemmas.{one_run}
use Rattle.net_world.proofs.law.one_run_on_one_thread.Goals as goal

pub returns : goal.returns
returns c = one_run
