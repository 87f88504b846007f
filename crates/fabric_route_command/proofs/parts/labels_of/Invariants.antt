use Rattle.fabric_route_command.specs.Parts.{AreLabelsBefore}
use Rattle.fabric_route_command.proofs.parts.labels_of.Given as goal

-- the switches so far
abbrev pub invariant-switches : goal.invariant-switches
invariant-switches l = AreLabelsBefore l.fabric l.switch 0 l.labels.items
