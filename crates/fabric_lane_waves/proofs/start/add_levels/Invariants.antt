use Rattle.std.proofs.Common.{◌≡◌, ◌<◌, ℕ}
use Rattle.std.specs.Int.{bit_at}
use Rattle.fabric_lane_waves.specs.LaneBlocks.{AreSetBy}
use Rattle.fabric_lane_waves.proofs.LevelLemmas.{But}
use Rattle.fabric_lane_waves.proofs.start.add_levels.Given as goal

-- the word stands in those of the levels that are not left
abbrev pub invariant-levels : goal.invariant-levels
invariant-levels l = record {
  set : AreSetBy l.fn.sent l.sent (But l.row l.levels l.word l.left);
  had : (level : ℕ) → bit_at l.left level ≡ 1 → (level < 16) × (bit_at l.levels level ≡ 1);
}

abbrev pub decreases-levels : goal.decreases-levels
decreases-levels l = l.left
