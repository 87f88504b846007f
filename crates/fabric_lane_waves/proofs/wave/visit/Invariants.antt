use Rattle.std.proofs.Common.{◌≡◌, ℕ, length}
use Rattle.std.specs.Int.{bit_at}
use Rattle.fabric_lane_waves.specs.LaneSteps.{IsGraphOn, StepsOf, StopsOf}
use Rattle.fabric_lane_waves.specs.Waves.{Taken}
use Rattle.fabric_lane_waves.proofs.wave.visit.Given as goal

-- the steps for the bits that are not left were taken
abbrev pub invariant-bits : goal.invariant-bits
invariant-bits l = record {
  taken : Taken (StepsOf l.routes) (StopsOf l.routes) (λ at other. (at ≡ l.place) × (bit_at l.fresh other ≡ 1) × (bit_at l.left other ≡ 1 → ⊥)) (record { seen = l.fn.seen; graph = l.fn.graph; stopped = l.stopped }) (record { seen = l.seen; graph = l.graph; stopped = l.stops });
  had : (bit : ℕ) → bit_at l.left bit ≡ 1 → bit_at l.fresh bit ≡ 1;
  graph : IsGraphOn l.routes.routing l.graph;
  count : length l.seen ≡ length l.fn.seen;
}

abbrev pub decreases-bits : goal.decreases-bits
decreases-bits l = l.left
