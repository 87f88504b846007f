use Rattle.std.proofs.Common.{◌<◌, ℕ}
use Rattle.fabric_model.specs.declared.node.EndPort.TheVariants.{Host}
use Rattle.fabric_route_command.specs.Parts.{IsOtherSource}
use Rattle.fabric_route_command.proofs.apart.find_host.Given as goal

-- none so far
abbrev pub invariant-ends : goal.invariant-ends
invariant-ends l = (end : ℕ) → end < l.end → ¬ IsOtherSource l.fabric l.traffic l.labels l.label (Host end)
