use Rattle.std.proofs.Common.{◌≡◌, ◌/◌, ◌%◌, ◌<◌, ℕ, length, get_or}
use Rattle.fabric_lane_tables.specs.PathLevels.{wide_place}
use Rattle.fabric_lane_tables.proofs.levels.widened.Given as goal

-- the first places
abbrev pub invariant-places : goal.invariant-places
invariant-places l = record {
  size : length l.wide.items ≡ l.index;
  each : (k : ℕ) → k < l.index → get_or l.wide.items k 4294967295 ≡ wide_place l.places l.old (k / l.new) (k % l.new);
}
