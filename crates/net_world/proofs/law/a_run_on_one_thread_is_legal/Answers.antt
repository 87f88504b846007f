use Rattle.net_world.proofs.SoloLemmas.{run_is_legal}
use Rattle.net_world.proofs.law.a_run_on_one_thread_is_legal.Goals as goal

pub returns : goal.returns
returns c = run_is_legal
