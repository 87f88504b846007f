use Rattle.switch_processes.proofs.Claims.{settled}
use Rattle.switch_processes.proofs.law.a_quiet_component_has_settled.Goals as goal

pub returns : goal.returns
returns c = settled
