use Rattle.std.proofs.Common.{◌≡◌, ◌<◌, ◌↔◌, ℕ}
use Rattle.std.specs.Int.{bit_at}
use Rattle.fabric_lane_tables.specs.Lanes.{lane_in}
use Rattle.fabric_lane_counts.proofs.gone.on_fifteen.Given as goal

-- the levels so far
abbrev pub invariant-levels : goal.invariant-levels
invariant-levels l = (other : ℕ) → ((bit_at l.word other ≡ 1) ↔ ((other < l.level) × (lane_in l.row other ≡ 15)))
