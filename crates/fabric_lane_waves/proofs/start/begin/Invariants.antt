use Rattle.std.proofs.Common.{◌≡◌}
use Rattle.std.specs.Int.{bit_at}
use Rattle.fabric_lane_waves.specs.LaneBlocks.{AreBegunOf, IsOfGate}
use Rattle.fabric_lane_waves.proofs.start.begin.Given as goal

-- the routes to the LIDs that are not left have begun
abbrev pub invariant-bits : goal.invariant-bits
invariant-bits l = AreBegunOf l.routes (λ at level bit. IsOfGate l.spot l.words at level bit × (bit_at l.left bit ≡ 1 → ⊥)) l.fn.seen l.seen l.stopped l.stops

abbrev pub decreases-bits : goal.decreases-bits
decreases-bits l = l.left
