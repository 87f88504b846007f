use Rattle.switch_processes.proofs.Ordered.{one_order}
use Rattle.switch_processes.proofs.law.processes_have_one_order.Goals as goal

pub returns : goal.returns
returns c = one_order
