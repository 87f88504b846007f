use Rattle.std.proofs.Common.{◌≡◌, ◌<◌, ◌≤◌, ◌+◌, ℕ, length, true, false, cond}
use Rattle.fabric_routes.specs.Waves.{HasBit, gap}
use Rattle.fabric_lane_waves.specs.LaneSteps.{StepsOf, StopsOf}
use Rattle.fabric_lane_waves.specs.Waves.{IsRunning}
use Rattle.fabric_lane_waves.proofs.wave.run.Given as goal

-- if nothing was fresh in a round, all is done
abbrev pub invariant-rounds : goal.invariant-rounds
invariant-rounds l = record {
  running : IsRunning (StepsOf l.routes) (StopsOf l.routes) (record { seen = l.fn.seen; graph = l.fn.graph; stopped = l.stopped }) (record { seen = l.seen; graph = l.graph; stopped = l.stops }) l.done;
  count : length l.seen ≡ length l.fn.seen;
  rest : l.fresh ≡ false → (place bit : ℕ) → place < length l.seen → HasBit l.seen place bit → HasBit l.done place bit;
}

abbrev pub decreases-rounds : goal.decreases-rounds
decreases-rounds l = cond l.fresh (gap l.done + 1) 0

-- the same of the places so far
abbrev pub invariant-places : goal.invariant-places
invariant-places l = record {
  running : IsRunning (StepsOf l.routes) (StopsOf l.routes) (record { seen = l.fn.seen; graph = l.fn.graph; stopped = l.stopped }) (record { seen = l.seen; graph = l.graph; stopped = l.stops }) l.done;
  count : length l.seen ≡ length l.fn.seen;
  rest : l.fresh ≡ false → (place bit : ℕ) → place < l.place → HasBit l.seen place bit → HasBit l.done place bit;
  most : gap l.done ≤ gap l.initial.done;
  less : l.fresh ≡ true → gap l.done < gap l.initial.done;
}
