use Rattle.std.proofs.Common.{◌≡◌, ◌<◌}
use Rattle.fabric_routes.specs.Waves.{HasBit}
use Rattle.fabric_lane_waves.specs.LaneBlocks.{AreBegunOf}
use Rattle.fabric_lane_waves.proofs.start.begin_bit.Given as goal

abbrev pub invariant-levels : goal.invariant-levels
invariant-levels l = AreBegunOf l.routes (λ at level other. (at ≡ l.spot) × (level < l.level) × HasBit l.words level l.bit × (other ≡ l.bit)) l.fn.seen l.seen l.stopped l.stops
