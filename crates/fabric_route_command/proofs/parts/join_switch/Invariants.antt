use Rattle.std.proofs.Common.{◌+◌}
use Rattle.fabric_route_command.specs.Parts.{AreLabelsBefore}
use Rattle.fabric_route_command.proofs.parts.join_switch.Given as goal

-- the ports so far
abbrev pub invariant-ports : goal.invariant-ports
invariant-ports l = AreLabelsBefore l.fabric l.switch (l.place + 1) l.labels
