use Rattle.std.proofs.Common.{◌≡◌, ◌<◌, ◌+◌, ◌*◌, ℕ, Some}
use Rattle.std.specs.Prelude.{slice_get}
use Rattle.fabric_routes.specs.Waves.{HasBit}
use Rattle.fabric_lane_waves.specs.LaneBlocks.{AreBegunOf}
use Rattle.fabric_lane_waves.proofs.start.begin_all.Given as goal

abbrev pub invariant-gates : goal.invariant-gates
invariant-gates l = AreBegunOf l.routes (λ at level bit. (gate : ℕ) × (gate < l.gate) × (slice_get l.spots gate ≡ Some at) × (level < l.top) × (bit < 64) × HasBit l.sent (gate * l.top + level) bit) l.fn.seen l.seen l.stopped l.stops
