use Rattle.std.proofs.Common.{◌<◌, ℕ}
use Rattle.fabric_route_command.specs.Parts.{IsOtherTarget}
use Rattle.fabric_route_command.proofs.apart.find_target.Given as goal

-- none so far
abbrev pub invariant-lids : goal.invariant-lids
invariant-lids l = (lid : ℕ) → lid < l.lid → ¬ IsOtherTarget l.fabric l.traffic l.labels l.label lid
