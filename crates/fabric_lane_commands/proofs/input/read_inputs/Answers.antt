use Rattle.std.proofs.Common.{refl}
use Rattle.fabric_call.specs.Answer.{no_fabric}
use Rattle.fabric_lane_commands.specs.Inputs.{no_tables}
use Rattle.fabric_lane_commands.proofs.input.read_inputs.Goals as goal

pub returns-in-Err-clause-stopped : goal.returns-in-Err-clause-stopped
returns-in-Err-clause-stopped g c = no_tables (no_fabric c.in-Err.ensures.none refl) refl refl
