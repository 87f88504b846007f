use Rattle.fabric_lane_waves.specs.LaneSteps.{StepsOf, StopsOf}
use Rattle.fabric_lane_waves.proofs.SpreadLemmas.{further_more, further_one}
use Rattle.fabric_lane_waves.proofs.wave.follow.Goals as goal

pub turns-init : goal.turns-init
turns-init c =
    further_one (StepsOf c.args.routes.now) (StopsOf c.args.routes.now) c.args.place (record { seen = c.args.seen.now; graph = c.args.graph.now; stopped = c.args.stopped }) (record { seen = c.turn.new.seen; graph = c.turn.new.graph; stopped = c.in_ok-stops.stops }) c.args.done.now c.turn.new.done c.in_ok-stops.ensures

pub turns-preserved : goal.turns-preserved
turns-preserved c =
    further_more (StepsOf c.args.routes.now) (StopsOf c.args.routes.now) c.turns.ahead (record { seen = c.args.seen.now; graph = c.args.graph.now; stopped = c.args.stopped }) (record { seen = c.turns.seen; graph = c.turns.graph; stopped = c.turns.stops }) (record { seen = c.turn-in-turns.new.seen; graph = c.turn-in-turns.new.graph; stopped = c.in-Some.now }) c.args.done.now c.turns.done c.turn-in-turns.new.done c.turns.invariant c.in-Some.ensures
