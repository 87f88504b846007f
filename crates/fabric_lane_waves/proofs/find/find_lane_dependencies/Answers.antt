use Rattle.std.proofs.Common.{subst, ℕ}
use Rattle.fabric_tables.specs.Cells.{tables_of}
use Rattle.fabric_lane_tables.specs.Lanes.{IsLaneCount, lanes_of}
use Rattle.fabric_lane_tables.specs.Levels.{levels_of}
use Rattle.fabric_routes.proofs.StartLemmas.{sent_low}
use Rattle.fabric_lane_waves.specs.LaneSteps.{IsLaneGraphOf}
use Rattle.fabric_lane_waves.proofs.FindLemmas.{all_found, all_stopped}
use Rattle.fabric_lane_waves.proofs.find.find_lane_dependencies.Goals as goal

pub returns-clause-graph : goal.returns-clause-graph
returns-clause-graph c =
    let routing = c.args.routing.now in
    all_found routing.fabric.now (tables_of routing.cells.now) (lanes_of routing.lanes.now) routing.lanes.now.count routing.traffic (levels_of routing.levels.now) (subst (IsLaneCount (lanes_of routing.lanes.now)) c.count-count.ensures.count c.count-count.ensures.lanes) routing.cells.now.blocks (sent_low routing.fabric.now (tables_of routing.cells.now) routing.traffic routing.cells.now.blocks routing.owners c.blocks-blocks.ensures.past) c.in_ok-graph.graph c.add_dependencies.new.graph c.in_ok-stopped.stopped (subst (λ (n : ℕ). IsLaneGraphOf routing.fabric.now n c.in_ok-graph.graph) c.count-count.ensures.count c.in_ok-graph.ensures.graph) c.in_ok-graph.ensures.none c.in_ok-stopped.ensures

pub returns-clause-stopped : goal.returns-clause-stopped
returns-clause-stopped c =
    let routing = c.args.routing.now in
    all_stopped routing.fabric.now (tables_of routing.cells.now) (lanes_of routing.lanes.now) routing.lanes.now.count routing.traffic (levels_of routing.levels.now) routing.cells.now.blocks (sent_low routing.fabric.now (tables_of routing.cells.now) routing.traffic routing.cells.now.blocks routing.owners c.blocks-blocks.ensures.past) c.in_ok-graph.graph c.add_dependencies.new.graph c.in_ok-stopped.stopped c.in_ok-stopped.ensures
