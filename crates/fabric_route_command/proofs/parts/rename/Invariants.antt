use Rattle.std.proofs.Common.{◌≡◌, ◌<◌, ◌≤◌, ℕ, length}
use Rattle.std.specs.Prelude.{slice_index}
use Rattle.fabric_route_command.specs.Parts.{renamed}
use Rattle.fabric_route_command.proofs.parts.rename.Given as goal

-- the labels before the place were renamed, and the others stand as they were
abbrev pub invariant-labels : goal.invariant-labels
invariant-labels l = record {
  count : length l.labels ≡ length l.initial.labels;
  each : (place : ℕ) → place < l.place → slice_index l.labels place ≡ renamed l.from l.to (slice_index l.initial.labels place);
  rest : (place : ℕ) → l.place ≤ place → slice_index l.labels place ≡ slice_index l.initial.labels place;
}
