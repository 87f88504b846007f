use Rattle.std.proofs.Common.{◌≡◌, ℕ}
use Rattle.std.specs.Int.{bit_at}
use Rattle.fabric_lane_tables.specs.Levels.{levels_of}
use Rattle.fabric_lane_waves.specs.LaneBlocks.{AreSetBy}
use Rattle.fabric_lane_waves.proofs.LevelLemmas.{ToldBut}
use Rattle.fabric_lane_waves.proofs.start.add_told.Given as goal

-- the bits that are not left are set
abbrev pub invariant-bits : goal.invariant-bits
invariant-bits l = record {
  set : AreSetBy l.fn.sent l.sent (ToldBut (levels_of l.levels) l.source l.block l.row l.word l.left);
  had : (bit : ℕ) → bit_at l.left bit ≡ 1 → bit_at l.word bit ≡ 1;
}

abbrev pub decreases-bits : goal.decreases-bits
decreases-bits l = l.left
