use Rattle.std.proofs.Common.{refl}
use Rattle.fabric_route_command.specs.Routed.{stopped}
use Rattle.fabric_route_command.proofs.route.route.Goals as goal

pub returns-in-Err : goal.returns-in-Err
returns-in-Err g c = stopped (record { status = c.in-Err.status; none = c.in-Err.ensures.none; kept = refl; told = c.finish.ensures })
