use Rattle.fabric_routes.specs.Waves.{gap}
use Rattle.fabric_lane_waves.specs.LaneSteps.{StepsOf, StopsOf}
use Rattle.fabric_lane_waves.specs.Waves.{IsFurther}
use Rattle.fabric_lane_waves.proofs.wave.follow.Given as goal

-- each turn carries the waves further
abbrev pub invariant-turns : goal.invariant-turns
invariant-turns l =
    IsFurther (StepsOf l.routes) (StopsOf l.routes) (record { seen = l.fn.seen; graph = l.fn.graph; stopped = l.stopped }) (record { seen = l.seen; graph = l.graph; stopped = l.stops }) l.fn.done l.done

abbrev pub decreases-turns : goal.decreases-turns
decreases-turns l = gap l.done
