use Rattle.std.proofs.Common.{[], None}
use Rattle.dep_check.proofs.steps.Steps.between.Goals as goal

pub returns : goal.returns
returns c = record { wires_are = c.in_ok-wires.ensures.items; count = (c.in_ok-exits.ensures [] None).count }
