use Rattle.std.proofs.Common.{◌<◌, ℕ}
use Rattle.fabric_model.specs.declared.node.EndPort.TheVariants.{Switch}
use Rattle.fabric_route_command.specs.Parts.{IsOtherSource}
use Rattle.fabric_route_command.proofs.apart.find_switch.Given as goal

-- none so far
abbrev pub invariant-switches : goal.invariant-switches
invariant-switches l = (switch : ℕ) → switch < l.switch → ¬ IsOtherSource l.fabric l.traffic l.labels l.label (Switch switch)
