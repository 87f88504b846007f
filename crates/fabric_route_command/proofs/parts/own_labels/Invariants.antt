use Rattle.std.proofs.Common.{◌≡◌, ◌<◌, ℕ, length}
use Rattle.std.specs.Prelude.{slice_index}
use Rattle.fabric_route_command.proofs.parts.own_labels.Given as goal

-- the labels so far
abbrev pub invariant-switches : goal.invariant-switches
invariant-switches l = (length l.labels.items ≡ l.switch) × ((place : ℕ) → place < l.switch → slice_index l.labels.items place ≡ place)
