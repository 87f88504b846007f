use Rattle.std.proofs.Common.{◌≡◌, ◌<◌, ◌≤◌, ℕ}
use Rattle.std.specs.Int.{bit_at}
use Rattle.fabric_lane_tables.proofs.levels.levels_in.Given as goal

-- the first levels are below the count
abbrev pub invariant-levels : goal.invariant-levels
invariant-levels l = record {
  below : (level : ℕ) → level < l.level → bit_at l.levels level ≡ 1 → level < l.count;
  most : l.count ≤ l.level;
}
