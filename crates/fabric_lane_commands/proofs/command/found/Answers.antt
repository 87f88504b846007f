use Rattle.std.proofs.lemmas.Result.{IfErr-weaker, IfOk-weaker}
use Rattle.fabric_lane_commands.specs.Inputs.{told_in, wanting}
use Rattle.fabric_lane_commands.proofs.command.found.Goals as goal

pub returns-in-Ok-clause-given : goal.returns-in-Ok-clause-given
returns-in-Ok-clause-given g c = IfOk-weaker c.given_of.result _ _ (λ given told. record { told = told_in c.in-Ok.input; read = c.in-Ok.ensures.read; given = told }) c.given_of.ensures.given

pub returns-in-Ok-clause-stopped : goal.returns-in-Ok-clause-stopped
returns-in-Ok-clause-stopped g c = IfErr-weaker c.given_of.result _ _ (λ status is. wanting is) c.given_of.ensures.wanting
