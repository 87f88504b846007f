use Rattle.std.proofs.Common.{◌≡◌, ◌<◌, ◌↔◌, ℕ}
use Rattle.std.specs.Int.{bit_at}
use Rattle.fabric_routes.specs.Waves.{HasBit}
use Rattle.fabric_lane_waves.proofs.start.union.Given as goal

abbrev pub invariant-levels : goal.invariant-levels
invariant-levels l = (bit : ℕ) → ((bit_at l.all bit ≡ 1) ↔ ((level : ℕ) × (level < l.word-index) × HasBit l.words level bit))
