use Rattle.std.proofs.Common.{refl}
use Rattle.fabric_between_command.specs.Answer.{no_fabric}
use Rattle.fabric_between_command.proofs.between.found.Goals as goal

pub returns-in-Err-clause-stopped : goal.returns-in-Err-clause-stopped
returns-in-Err-clause-stopped g c = no_fabric c.in-Err.ensures.none refl refl
