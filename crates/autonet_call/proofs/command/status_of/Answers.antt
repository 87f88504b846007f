use Rattle.std.proofs.Common.{refl}
use Rattle.autonet_call.specs.Answer.{stopped}
use Rattle.autonet_call.proofs.command.status_of.Goals as goal

pub returns-in-Err : goal.returns-in-Err
returns-in-Err g c = stopped c.in-Err.ensures.stopped refl
