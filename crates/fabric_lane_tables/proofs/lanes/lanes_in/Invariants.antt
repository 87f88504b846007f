use Rattle.std.proofs.Common.{◌≡◌, ◌<◌, ◌+◌, ◌⊎◌, ℕ}
use Rattle.fabric_lane_tables.specs.Lanes.{lane_in}
use Rattle.fabric_lane_tables.proofs.lanes.lanes_in.Given as goal

-- how many lanes the first levels have
abbrev pub invariant-levels : goal.invariant-levels
invariant-levels l = record {
  each : (level : ℕ) → level < l.level → (lane_in l.row level ≡ 15) ⊎ (lane_in l.row level < l.count);
  some : (l.count ≡ 0) ⊎ ((level : ℕ) × (level < 16) × (lane_in l.row level < 15) × (l.count ≡ lane_in l.row level + 1));
}
